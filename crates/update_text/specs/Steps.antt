-- One step of a reader that takes a text apart.
use Rattle.std.specs.Prelude.{◌≡◌, ℕ, ◌+◌, ◌-◌, ◌^◌, ◌<◌, Bool, true, false, not, ◌&&◌, List, [], length, drop, is_some, Some, None, Option, ◌==◌}
use Rattle.std.specs.Option.{option_map, unwrap_or}
use Rattle.update_text.specs.declared.parts.Part.{Part}
use Rattle.update_text.specs.declared.parts.Parts.{Parts}
use Rattle.update_text.specs.Cuts.{Splits}

-- whether anything is left to read, be it empty
abbrev pub unread : Parts → Bool
unread s = is_some s.rest

-- what is left to read
abbrev pub rest_of : Parts → List ℕ
rest_of s = unwrap_or (option_map (λ b. b.now) s.rest) []

-- no more parts than this are left
abbrev pub to_read : Parts → ℕ
to_read s = unwrap_or (option_map (λ b. length b.now + 1) s.rest) 0

-- the byte where what is left begins
abbrev pub start_of : Parts → ℕ
start_of s = s.end - length (rest_of s)

-- the part is the empty end of a text, after its last mark
abbrev pub is_end : Part → Bool
is_end p = not p.marked && length p.bytes.now == 0

-- s is to take `bytes` apart, which begin at the byte `at`
pub record Started (s : Parts) (bytes : List ℕ) (at with : ℕ) : Type 0 where
  pub rest : rest_of s ≡ bytes
  pub more : unread s ≡ true
  pub mark : s.mark ≡ with
  pub end : at + length bytes < 2 ^ 64 → s.end ≡ at + length bytes

-- the part p was read, and t is what s became
pub record TookPart (s : Parts) (p : Part) (t : Parts) : Type 0 where
  pub was : unread s ≡ true
  pub after : List ℕ
  pub cut : Splits s.mark (rest_of s) p.bytes.now after
  pub start : p.at ≡ start_of s
  pub mark : t.mark ≡ s.mark
  pub end : t.end ≡ s.end
  pub marked : p.marked ≡ not (length after == 0)
  pub more : unread t ≡ p.marked
  pub rest : rest_of t ≡ drop 1 after

abbrev pub NextPart : Parts → Option Part → Parts → Type 0
NextPart s None t = (unread s ≡ false) × (t ≡ s)
NextPart s (Some p) t = TookPart s p t

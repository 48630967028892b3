-- When a board serves: what holds of it after opening and after every call.
use Rattle.std.specs.Prelude.{◌≡◌, ℕ}
use Rattle.std.specs.Option.{option_map}
use Rattle.matching.specs.Canonical.{partner_in}
use Rattle.matching.specs.Meanings.{Meaning, Lawful, kept_of}
use Rattle.settling.specs.declared.kept_pairs.KeptPairs.{KeptPairs}
use Rattle.settling.specs.Kept.{partner_shown, Copies}

-- the board's keeper is sound and means m, and k, the board's own table, agrees with it
pub record Serves (sound : Type 0) (m : Meaning) (k : KeptPairs) : Type 0 where
  pub keeper : sound
  pub lawful : Lawful m
  -- the copy of the choice is the keeper's choice
  pub copies : Copies k m.chosen
  -- the kept pairs are those that static combining picks from it
  pub keeps : (v : ℕ) → partner_shown k v ≡ option_map (λ x. x.0) (partner_in (kept_of m) v)

-- The rules by which the patient and the ordered keeper choose, in a form that can be carried out.
use Rattle.std.specs.Prelude.{◌≡◌, ℕ, Bool, cond, not, ◌&&◌, List, [], ◌∷◌, Some, None, filter, Option, ◌==◌, nat_le}
use Rattle.proposals.specs.declared.proposals.Proposal.{Proposal}
use Rattle.proposals.specs.declared.pairs.Pair.{Pair}
use Rattle.matching.specs.Lists.{any, first_of}
use Rattle.matching.specs.Matching.{level, has, other, shares}
use Rattle.matching.specs.Canonical.{insert, joins, without}
use Rattle.matching.specs.Meanings.{Meaning, ratio}

-- a meter of p has a chosen one at p's own level
unfoldable pub blocked : ℕ → List Proposal → Proposal → Bool
blocked r C p = any (λ q. (level r q == level r p) && shares p q) C

-- the same group and capacity, with these open and these chosen
abbrev pub holding : Meaning → List Proposal → List Proposal → Meaning
holding m opened chosen = record { size = m.size; capacity = m.capacity; opened = opened; chosen = chosen }

-- The patient keeper chooses a new proposal if neither meter has a chosen one at that level.
abbrev pub patient_adds : ℕ → List Proposal → Proposal → List Proposal
patient_adds r C p = cond (blocked r C p) C (insert p C)

abbrev pub patient_put : Meaning → Proposal → Meaning
patient_put m p = holding m (insert p m.opened) (patient_adds ratio m.chosen p)

-- It gives up a chosen proposal only when that one is taken. Then the lower of the two meters, and after it the higher,
-- is joined, if still free, to the smallest meter that has an open proposal of that level with it and no chosen one at that level.

-- p is of level l, has the meter v, and neither of its meters has a chosen one at that level
unfoldable pub offers : ℕ → List Proposal → ℕ → ℕ → Proposal → Bool
offers r C l v p = level r p == l && (has p v && not (blocked r C p))

-- of p and what was found: the one whose other meter is smaller
abbrev pub nearer : ℕ → Proposal → Option Proposal → Option Proposal
nearer v p None = Some p
nearer v p (Some q) = cond (nat_le (other p v) (other q v)) (Some p) (Some q)

-- the one of the list that joins v to the smallest meter
abbrev pub nearest : ℕ → List Proposal → Option Proposal
nearest v [] = None
nearest v (p ∷ ps) = nearer v p (nearest v ps)

abbrev pub chosen_too : Option Proposal → List Proposal → List Proposal
chosen_too None C = C
chosen_too (Some p) C = insert p C

abbrev pub rejoins : ℕ → List Proposal → ℕ → ℕ → List Proposal → List Proposal
rejoins r opened l v C = chosen_too (nearest v (filter (offers r C l v) opened)) C

-- q, if it was chosen, is so no more
abbrev pub patient_loses : ℕ → List Proposal → List Proposal → Option Proposal → List Proposal
patient_loses r opened C None = C
patient_loses r opened C (Some q) =
    rejoins r opened (level r q) q.high (rejoins r opened (level r q) q.low (without q.low q.high C))

abbrev pub patient_take : Meaning → Pair → Meaning
patient_take m pair =
    let opened = without pair.low pair.high m.opened in
    holding m opened (patient_loses ratio opened m.chosen (first_of (joins pair.low pair.high) m.chosen))

-- The ordered keeper goes through the open proposals by lower, then higher meter, at each level,
-- and chooses each whose two meters are still free; C is what it chose before.
abbrev pub in_turn : ℕ → List Proposal → List Proposal → List Proposal
in_turn r C [] = []
in_turn r C (p ∷ ps) = cond (blocked r C p) (in_turn r C ps) (p ∷ in_turn r (p ∷ C) ps)

abbrev pub ordered : ℕ → List Proposal → List Proposal
ordered r opened = in_turn r [] opened

abbrev pub ordered_put : Meaning → Proposal → Meaning
ordered_put m p = let opened = insert p m.opened in holding m opened (ordered ratio opened)

abbrev pub ordered_take : Meaning → Pair → Meaning
ordered_take m pair = let opened = without pair.low pair.high m.opened in holding m opened (ordered ratio opened)

-- the choice depends on the open proposals alone
abbrev pub ByOrder : Meaning → Type 0
ByOrder m = m.chosen ≡ ordered ratio m.opened

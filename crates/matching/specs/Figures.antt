-- Worked figures of the ladder and of the two rules.
use Rattle.std.specs.Prelude.{◌≡◌, ℕ, cond, T, List, [], ◌∷◌, is_some, nat_le, nat_lt}
use Rattle.std.proofs.Common.{lit<, lit≤}
use Rattle.proposals.specs.declared.proposals.Proposal.{Proposal}
use Rattle.proposals.specs.declared.pairs.Pair.{Pair}
use Rattle.proposals.specs.Levels.{level_of}
use Rattle.matching.specs.Matching.{total, altered}
use Rattle.matching.specs.Meanings.{Meaning, bare, kept_of, put_refusal, take_refusal}
use Rattle.matching.specs.Rules.{patient_put, patient_take, ordered_put}

-- a proposal for the meters a and b that saves s, and the pair alone
abbrev pub proposal : (a b s : ℕ) → T (nat_lt a b) → T (nat_le 1 s) → T (nat_le s 1048575) → Proposal
proposal a b s apart some limited = record { low = a; high = b; saving = s; apart = lit< apart; some = lit≤ some; limited = lit≤ limited }

abbrev pub pair : (a b : ℕ) → T (nat_lt a b) → Pair
pair a b apart = record { low = a; high = b; apart = lit< apart }

-- a call that is refused leaves all as it was
abbrev pub put : (Meaning → Proposal → Meaning) → Meaning → Proposal → Meaning
put rule m p = cond (is_some (put_refusal m p)) m (rule m p)

abbrev pub take : (Meaning → Pair → Meaning) → Meaning → Pair → Meaning
take rule m p = cond (is_some (take_refusal m p)) m (rule m p)

-- the meaning after all of the proposals, one by one
abbrev pub after : (Meaning → Proposal → Meaning) → Meaning → List Proposal → Meaning
after rule m [] = m
after rule m (p ∷ ps) = after rule (put rule m p) ps

abbrev pub saved : Meaning → ℕ
saved m = total (kept_of m)

abbrev pub alters : Meaning → Meaning → ℕ
alters m m' = altered (kept_of m) (kept_of m')

abbrev pub moves : Meaning → Meaning → ℕ
moves m m' = altered m.chosen m'.chosen

-- call by call: what is saved then, how many kept pairs it altered, how many chosen ones came or went
abbrev pub savings : (Meaning → Proposal → Meaning) → Meaning → List Proposal → List ℕ
savings rule m [] = []
savings rule m (p ∷ ps) = saved (put rule m p) ∷ savings rule (put rule m p) ps

abbrev pub alterations : (Meaning → Proposal → Meaning) → Meaning → List Proposal → List ℕ
alterations rule m [] = []
alterations rule m (p ∷ ps) = alters m (put rule m p) ∷ alterations rule (put rule m p) ps

abbrev pub movements : (Meaning → Proposal → Meaning) → Meaning → List Proposal → List ℕ
movements rule m [] = []
movements rule m (p ∷ ps) = moves m (put rule m p) ∷ movements rule (put rule m p) ps

-- a chain of meters, each proposal a level above the one before
abbrev pub chain : List Proposal
chain = proposal 0 1 1 tt tt tt ∷ proposal 1 2 2 tt tt tt ∷ proposal 2 3 4 tt tt tt ∷ proposal 3 4 8 tt tt tt ∷ []

abbrev pub chained : Meaning
chained = after patient_put (bare 5 4096) chain

abbrev pub chain_cut : Meaning
chain_cut = take patient_take chained (pair 3 4 tt)

-- three proposals of equal saving
abbrev pub equals : List Proposal
equals = proposal 1 2 4 tt tt tt ∷ proposal 0 1 4 tt tt tt ∷ proposal 2 3 4 tt tt tt ∷ []

abbrev pub equalled : Meaning
equalled = after patient_put (bare 4 4096) equals

abbrev pub middle_gone : Meaning
middle_gone = take patient_take equalled (pair 1 2 tt)

-- five proposals of equal saving, the first of them chosen and then taken
abbrev pub rejoined : Meaning
rejoined =
    take patient_take
    (after patient_put (bare 5 4096) (proposal 1 2 4 tt tt tt ∷ proposal 1 4 4 tt tt tt ∷ proposal 0 1 4 tt tt tt ∷ proposal 0 2 4 tt tt tt ∷ proposal 2 4 4 tt tt tt ∷ []))
    (pair 1 2 tt)

-- four proposals, and one above them that lets two meters go at once
abbrev pub below : Meaning
below =
    after patient_put (bare 5 4096)
    (proposal 0 2 8 tt tt tt ∷ proposal 1 3 8 tt tt tt ∷ proposal 3 4 4 tt tt tt ∷ proposal 2 3 1 tt tt tt ∷ [])

abbrev pub two_let_go : Meaning
two_let_go = put patient_put below (proposal 0 1 16 tt tt tt)

pub record Figures : Type 0 where
  pub level_of_1 : level_of 2 1 ≡ 0
  pub level_of_3 : level_of 2 3 ≡ 1
  pub level_of_4 : level_of 2 4 ≡ 2
  pub level_of_524287 : level_of 2 524287 ≡ 18
  pub level_of_524288 : level_of 2 524288 ≡ 19
  pub level_of_1048575 : level_of 2 1048575 ≡ 19
  pub nothing_open : (size capacity : ℕ) → saved (bare size capacity) ≡ 0
  pub chain_saves : savings patient_put (bare 5 4096) chain ≡ 1 ∷ 2 ∷ 5 ∷ 10 ∷ []
  pub chain_alters : alterations patient_put (bare 5 4096) chain ≡ 1 ∷ 2 ∷ 3 ∷ 4 ∷ []
  pub chain_cut_saves : saved chain_cut ≡ 5
  pub chain_cut_alters : alters chained chain_cut ≡ 4
  pub equals_save_patiently : savings patient_put (bare 4 4096) equals ≡ 4 ∷ 4 ∷ 4 ∷ []
  pub middle_gone_saves : saved middle_gone ≡ 8
  pub middle_gone_alters : alters equalled middle_gone ≡ 3
  pub middle_gone_moves : moves equalled middle_gone ≡ 3
  -- the lower meter first, and each to the smallest meter that is left
  pub rejoined_keeps : kept_of rejoined ≡ proposal 0 1 4 tt tt tt ∷ proposal 2 4 4 tt tt tt ∷ []
  pub equals_save_in_order : savings ordered_put (bare 4 4096) equals ≡ 4 ∷ 4 ∷ 8 ∷ []
  pub equals_alter_in_order : alterations ordered_put (bare 4 4096) equals ≡ 1 ∷ 2 ∷ 1 ∷ []
  pub equals_move_in_order : movements ordered_put (bare 4 4096) equals ≡ 1 ∷ 2 ∷ 1 ∷ []
  pub two_let_go_keeps : kept_of two_let_go ≡ proposal 0 1 16 tt tt tt ∷ proposal 3 4 4 tt tt tt ∷ []
  pub two_let_go_saves : saved two_let_go ≡ 20
  pub two_let_go_alters : alters below two_let_go ≡ 4

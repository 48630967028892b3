use Rattle.std.proofs.Common.{◌≡◌, true, sym, subst, rules}
use Rattle.choices.specs.Mates.{entry}
use Rattle.settling.specs.declared.kept_pairs.KeptPairs.{KeptPairs}
use Rattle.settling.specs.Kept.{are_mates, Sound}
use Rattle.settling.proofs.Tables.{kept_is, kept_not}
use Rattle.settling.proofs.Edits.{LetGo, was_kept, was_loose, remove_sound}
use Rattle.settling.proofs.kept_pairs.KeptPairs.remove.Goals as goal
use Rattle.settling.proofs.kept_pairs.KeptPairs.remove.Goals.{then-eq, else-eq}

pub returns-clause-removed : goal.returns-clause-removed
returns-clause-removed c =
    let k = c.args.self.now in
    let k₁ = c.if-eq.self in
    let a = c.args.a in
    let b = c.args.b in
    let l = c.args.level in
    let go : Sound k → are_mates (entry k.choice) l a b ≡ true → LetGo k k₁ a b l =
    elim c.if-eq.branch [
      | then-eq w ↦
          subst (λ (q : KeptPairs). Sound k → are_mates (entry k.choice) l a b ≡ true → LetGo k q a b l) (sym w.self-is)
          (was_kept k w.release.new.self a b l w.release.result w.release.ensures (kept_is _ l (search (rules, w.if-eq.true))))
      | else-eq w ↦ was_loose k k₁ a b l w.self-is (kept_not _ l (search (rules, w.if-eq.false)))
    ]
    in
    remove_sound k k₁ c.resettle.new.self c.resettle-2.new.self c.part.new.self a b l go
    c.part.ensures.parted c.resettle.ensures c.resettle-2.ensures

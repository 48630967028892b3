use Rattle.keepers.proofs.ruled.Ruled.new.Goals as goal

pub returns-clause-order : goal.returns-clause-order
returns-clause-order g c = g.R.Rule.begins _ _ _ c.new.ensures.order c.new.ensures.means

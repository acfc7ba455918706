-- `landing::Entry::turned` meets its contract. Assumes nothing.
use Rattle.landing.proofs.Landings.{in_range}
use Rattle.landing.proofs.entries.Entry.turned.Goals as goal

pub turned-requires-clause-y : goal.turned-requires-clause-y
turned-requires-clause-y c = record { within = (in_range c.args.v c.requires).0 }

pub turned-requires-clause-x : goal.turned-requires-clause-x
turned-requires-clause-x c = record { within = (in_range c.args.v c.requires).1 }

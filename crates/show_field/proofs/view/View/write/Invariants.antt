-- No write has failed, so many parts as turns have been handed over, and the writer holds them.
use Rattle.std.specs.Prelude.{◌≡◌, false}
use Rattle.std.specs.Io.KnownBytes.{Appends}
use Rattle.text.specs.Joined.{joined}
use Rattle.show_field.specs.Output.{part_of}
use Rattle.show_field.proofs.view.View.write.Given as goal

abbrev pub invariant-loop : goal.invariant-loop
invariant-loop g l =
    (l.sent.failed ≡ false) × (l.sent.parts ≡ l.counter) × Appends (g.W.Write.contents l.initial.to) (g.W.Write.contents l.to) (joined (part_of l.self.wanted l.self.setup.now l.self.cells.y.now l.self.cells.x.now l.self.cells.reference.now) l.sent.parts 0)

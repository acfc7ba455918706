-- The line's three pieces, one behind the other.
use Rattle.std.proofs.Common.{[], ◌∷◌, codes}
use Rattle.show_field.specs.Lines.{line}
use Rattle.show_field.proofs.Joined.{in_turn}
use Rattle.show_field.proofs.problems.put_message.Goals as goal

pub returns-clause-text : goal.returns-clause-text
unfolding line
returns-clause-text g c = in_turn c.args.out.now.items (codes "show_field: ") c.args.message.now (10 ∷ []) c.put_word.ensures c.put_word-2.ensures c.push.ensures.items

-- `framefile::is_frame_file` meets its contract. Assumes nothing.
use Rattle.std.proofs.Common.{◌∙◌}
use Rattle.framefile.proofs.Name.{named}
use Rattle.framefile.proofs.is_frame_file.Goals as goal

pub returns : goal.returns
returns c = rw (c.as_slice.ensures) at c.starts_with.ensures.value ∙ named c.args.b.now c.requires

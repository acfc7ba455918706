-- `framefile::pocs_of` meets its contract. Assumes nothing.
use Rattle.framefile.specs.File.{pocs_of}
use Rattle.framefile.proofs.pocs_of.Goals as goal

pub returns : goal.returns
unfolding pocs_of
returns c = rw (c.all_saved-saved.ensures, c.hints_at-ref_poc.ensures, c.word_at-n_refs.ensures, c.word_at-nbits.ensures)

-- `framefile::header_of` meets its contract. Assumes nothing.
use Rattle.std.proofs.Common.{w8, SFits, rules}
use Rattle.intops.proofs.Signed.{back}
use Rattle.framefile.specs.File.{header_of}
use Rattle.framefile.proofs.header_of.Goals as goal

pub returns : goal.returns
unfolding header_of
returns c =
    let f : SFits w8 c.signed_byte-tip0.result = search rules in
    let g : SFits w8 c.signed_byte-tip1.result = search rules in
    simp back (rw (c.pocs_of-pocs.ensures, c.present_of-rp_ref.ensures, c.signed_byte-tip1.ensures, c.signed_byte-tip0.ensures, c.word_at-height.ensures, c.word_at-width.ensures))

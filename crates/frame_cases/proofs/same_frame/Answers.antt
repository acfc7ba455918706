-- `frame_cases::same_frame` meets its contract. Assumes nothing.
use Rattle.std.proofs.Common.{true, ◌≡◌, sym, ap, ◌∙◌, pos, w64, SFits, rules}
use Rattle.intops.proofs.Signed.{same_bits}
use Rattle.frame.specs.Frame.{SaidSetup, setup_of}
use Rattle.cases.specs.Numbers.{at}
use Rattle.frame_cases.specs.FrameCase.{header_of, record_of}
use Rattle.frame_cases.proofs.FrameCase.{said_setup}
use Rattle.frame_cases.proofs.same_frame.Goals as goal

pub returns-then-from-n : goal.returns-then-from-n
returns-then-from-n c = λ a.
    let n = c.args.n.now in
    let f : SFits w64 (at n 83) = search rules in
    let g : SFits w64 c.from.result = search rules in
    let t : c.is_record.result ≡ true = cc in
    let q = c.said-number.result in
    let s = c.said-number.ensures in
    let e : ◌≡◌ {A = SaidSetup} (record { refusal = q.0; frame = q.1 }) (setup_of (header_of n)) = said_setup c.init_frame.result s.number s.value c.zero_frame.ensures ∙ c.init_frame.ensures ∙ ap setup_of c.header_of.ensures in
    let same = rw t at c.is_record.ensures in
    record {
      same_refusal = sym (same_bits g f c.if-from-n.true) ∙ c.from.ensures ∙ ap pos (ap (λ (s : SaidSetup). s.refusal) e);
      same_record = λ k h. same k h ∙ ap (λ (s : SaidSetup). at (record_of s.frame) k) e;
    }

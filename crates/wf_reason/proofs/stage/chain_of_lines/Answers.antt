use Rattle.std.proofs.Common.{[], Some, refl, sym, subst, arith}
use Rattle.std.specs.Prelude.{codes}
use Rattle.wf_io.specs.Readers.{left_in}
use Rattle.wf_lines.specs.Taking.{IsWritingFault}
use Rattle.wf_lines.proofs.Openings.{told_opened, opened_once}
use Rattle.wf_stage.specs.Ends.{IsOfOutcome}
use Rattle.wf_stage.specs.Causes.{IsReadingCause}
use Rattle.wf_stage.specs.LineEnds.{end_of_fault}
use Rattle.wf_stage.proofs.LineEnds.{fault_of_outcome, fault_caused_reading}
use Rattle.wf_reason.specs.HandedIn.{StopsLines}
use Rattle.wf_reason.specs.Faults.{wrong_end}
use Rattle.wf_reason.specs.Standing.{IsOfRun, AreTakenSo}
use Rattle.wf_reason.proofs.TakenLines.{handed_one_way, handed_begin, handed_closed, AreTakenInto, lines_told, AreStoppedAt, lines_stop, refused_stop}
use Rattle.wf_reason.proofs.stage.chain_of_lines.Goals as goal

pub checked-requires : goal.checked-requires
checked-requires g c =
    let k = c.take_lines.ensures.known c.args.run.now (refl, tt) in
    subst (λ v. IsOfRun v c.take_lines.new.taker.standing) k.0 k.1

pub returns-in-Ok : goal.returns-in-Ok
returns-in-Ok g c =
    let v = c.args.run.now in
    let last = c.take_lines.new.taker in
    let k = c.take_lines.ensures.known v (refl, tt) in
    let IsAt = AreTakenSo last.run.now last.turn last.last last.standing in
    record {
      reads = λ name is_open. record {
        told = λ f told.
            let t = lines_told IsAt _ (told_opened (AreTakenInto IsAt) f name c.args.lines.now is_open (λ st. c.in-Ok.ensures.taken f told st [] (record { turn_is = refl; last_is = refl; stands = refl }))) in
            let at = subst (λ w. AreTakenSo w last.turn last.last last.standing t.0) k.0 t.2 in
            (t.0, t.1, c.checked.ensures t.0 at.stands at.last_is);
        count = c.in-Ok.ensures.same;
        same = c.take_lines.ensures.files;
        once = opened_once _ _ is_open _ _ c.take_lines.ensures.once;
      };
    }

pub returns-in-Err : goal.returns-in-Err
returns-in-Err g c =
    let word = codes "chain" in
    let e = end_of_fault wrong_end word c.in-Err.fault in
    record {
      reads = λ name is_open. record {
        stops = λ f told w.
            let is = fault_of_outcome wrong_end word c.in-Err.fault (subst IsOfOutcome c.chain_stop.ensures w) in
            subst (StopsLines _) (sym c.chain_stop.ensures)
            (lines_stop _ e (IsWritingFault c.in-Err.fault) (told_opened (AreStoppedAt (Some e) (IsWritingFault c.in-Err.fault)) f name c.args.lines.now is_open
            (λ st. subst (λ o. AreStoppedAt o (IsWritingFault c.in-Err.fault) (left_in (f c.args.lines.now.name) c.args.lines.now)) is
            (c.in-Err.ensures.stopped f told st [] (record { turn_is = refl; last_is = refl; stands = refl }) handed_one_way handed_begin handed_closed tt))));
        cause = subst (IsReadingCause _ _ _) (sym c.chain_stop.ensures) (fault_caused_reading wrong_end word _ _ _ 0 0 _ c.in-Err.fault (λ r. absurd (let x = r refl in omega (arith, x))) (refused_stop c.in-Err.fault) c.in-Err.ensures.cause);
        same = c.take_lines.ensures.files;
        once = opened_once _ _ is_open _ _ c.take_lines.ensures.once;
        later = c.take_lines.ensures.later;
      };
    }

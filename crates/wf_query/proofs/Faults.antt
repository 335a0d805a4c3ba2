-- The faults of lines, where queries are answered.
use Rattle.std.proofs.Common.{◌≡◌, ℕ, Bool, refl}
use Rattle.wf_lines.specs.declared.fault.Halt.TheVariants.{LineTooLong as TooLongHeld, FileTooLong as LongFileHeld, ReadFault as ReadingFailed, WriteFault as WritingFailed}
use Rattle.wf_lines.specs.declared.fault.LinesFault.{LinesFault}
use Rattle.wf_lines.specs.declared.fault.LinesFault.TheVariants.{Stopped, Halted}
use Rattle.wf_lines.specs.Taking.{IsCauseOf as IsCauseOfLines, IsWritingFault, end_at}
use Rattle.wf_query.specs.declared.answering.QueryFault.{QueryFault}
use Rattle.wf_query.specs.declared.answering.QueryFault.TheVariants.{Wrong, NoMemory}
use Rattle.wf_query.specs.declared.batching.BatchFault.TheVariants.{WriteFault}
use Rattle.wf_query.specs.Lines.{IsCauseOf, ended_at, query_ends}
use Rattle.wf_query.specs.Answering.{fault_by, query_end}

-- a fault tells how the lines ended
pub end_by_fault : (f : LinesFault QueryFault) → end_at query_ends query_end f ≡ ended_at (fault_by f)
end_by_fault (Stopped (Wrong line)) = refl
end_by_fault (Stopped NoMemory) = refl
end_by_fault (Halted (TooLongHeld line)) = refl
end_by_fault (Halted (LongFileHeld line)) = refl
end_by_fault (Halted ReadingFailed) = refl
end_by_fault (Halted WritingFailed) = refl

-- and has its cause
pub cause_by_fault : (before after : ℕ) (last : Bool) (out_before out_after : ℕ) (out_last : Bool) (f : LinesFault QueryFault) → IsCauseOfLines before after last out_before out_after out_last f → IsCauseOf before after last out_before out_after out_last (fault_by f)
cause_by_fault before after last out_before out_after out_last (Stopped (Wrong line)) h = h
cause_by_fault before after last out_before out_after out_last (Stopped NoMemory) h = h
cause_by_fault before after last out_before out_after out_last (Halted (TooLongHeld line)) h = h
cause_by_fault before after last out_before out_after out_last (Halted (LongFileHeld line)) h = h
cause_by_fault before after last out_before out_after out_last (Halted ReadingFailed) h = h
cause_by_fault before after last out_before out_after out_last (Halted WritingFailed) h = h

-- one of writing is one of the lines
pub written_by_fault : (f : LinesFault QueryFault) → fault_by f ≡ WriteFault → IsWritingFault f
written_by_fault (Stopped (Wrong line)) is = absurd (cc)
written_by_fault (Stopped NoMemory) is = absurd (cc)
written_by_fault (Halted (TooLongHeld line)) is = absurd (cc)
written_by_fault (Halted (LongFileHeld line)) is = absurd (cc)
written_by_fault (Halted ReadingFailed) is = absurd (cc)
written_by_fault (Halted WritingFailed) is = refl

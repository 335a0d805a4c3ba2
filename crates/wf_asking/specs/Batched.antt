-- How a command ends where lines of queries were answered.
use Rattle.std.specs.Prelude.{Result, Ok, Err}
use Rattle.wf_query.specs.Lines.{WrongAt, TooLongAt, LongFileAt, BrokenFile}
use Rattle.wf_query.specs.declared.batching.BatchFault.{BatchFault}
use Rattle.wf_query.specs.declared.batching.BatchFault.TheVariants.{LineWrong, LineTooLong, FileTooLong, ReadFault, WriteFault as WritingFailed, NoMemory as WantedMemory}
use Rattle.wf_message.specs.Endings.{End, Done, WriteFault, NoMemory}
use Rattle.wf_asking.specs.Queries.{end_of_lines}

-- the end that a fault is
abbrev pub end_at : BatchFault → End
end_at (LineWrong line) = end_of_lines (WrongAt line)
end_at (LineTooLong line) = end_of_lines (TooLongAt line)
end_at (FileTooLong line) = end_of_lines (LongFileAt line)
end_at ReadFault = end_of_lines BrokenFile
end_at WritingFailed = WriteFault
end_at WantedMemory = NoMemory

-- the end by what a call answers
abbrev pub end_by : {N : Type 0} → Result N BatchFault → End
end_by (Ok n) = Done
end_by (Err fault) = end_at fault

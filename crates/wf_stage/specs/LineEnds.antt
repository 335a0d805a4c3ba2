-- The ends that the lines of a file come to, whatever takes them.
use Rattle.std.specs.Prelude.{ℕ, List, Option, Some, None, codes}
use Rattle.wf_lines.specs.LineStages.{LineEnds}
use Rattle.wf_lines.specs.declared.fault.Halt.{Halt}
use Rattle.wf_lines.specs.declared.fault.Halt.TheVariants.{LineTooLong, FileTooLong, ReadFault as ReadingFailed, WriteFault as WritingFailed}
use Rattle.wf_lines.specs.declared.fault.LinesFault.{LinesFault}
use Rattle.wf_lines.specs.declared.fault.LinesFault.TheVariants.{Stopped, Halted}
use Rattle.wf_message.specs.Endings.{End, Done, Usage, Refused, ReadFault, WriteFault, NoMemory}

-- of a file with this word
abbrev pub line_ends : List ℕ → LineEnds End
line_ends word = record {
  too_long = λ n. Refused word (Some n) (codes "LineTooLong");
  long_file = λ n. Refused word (Some n) (codes "FileTooLong");
  broken = ReadFault word;
}

-- the end at which its lines halt
abbrev pub end_of_halt : List ℕ → Halt → End
end_of_halt word (LineTooLong n) = Refused word (Some n) (codes "LineTooLong")
end_of_halt word (FileTooLong n) = Refused word (Some n) (codes "FileTooLong")
end_of_halt word ReadingFailed = ReadFault word
end_of_halt word WritingFailed = WriteFault

-- the end, where it says something of files: a fault of writing and want of memory say nothing of them
abbrev pub told_end : End → Option End
told_end Done = Some Done
told_end Usage = Some Usage
told_end (Refused word line fault) = Some (Refused word line fault)
told_end (ReadFault word) = Some (ReadFault word)
told_end WriteFault = None
told_end NoMemory = None

-- the end that a fault of lines is, by the ends that the faults of what takes them are
abbrev pub end_of_fault : {F : Type 0} → (F → End) → List ℕ → LinesFault F → End
end_of_fault ends word (Stopped f) = ends f
end_of_fault ends word (Halted halt) = end_of_halt word halt

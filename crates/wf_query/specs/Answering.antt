-- What answers queries, as what takes the lines of a file.
use Rattle.std.specs.Prelude.{◌≡◌, ℕ, List, [], Option, Some, None}
use Rattle.wf_lines.specs.declared.fault.Halt.TheVariants.{LineTooLong as TooLongHeld, FileTooLong as LongFileHeld, ReadFault as ReadingFailed, WriteFault as WritingFailed}
use Rattle.wf_lines.specs.declared.fault.LinesFault.{LinesFault}
use Rattle.wf_lines.specs.declared.fault.LinesFault.TheVariants.{Stopped, Halted}
use Rattle.wf_query.specs.declared.answering.QueryFault.{QueryFault}
use Rattle.wf_query.specs.declared.answering.QueryFault.TheVariants.{Wrong, NoMemory as WantsMemory}
use Rattle.wf_query.specs.declared.batching.BatchFault.{BatchFault}
use Rattle.wf_query.specs.declared.batching.BatchFault.TheVariants.{LineWrong, LineTooLong, FileTooLong, ReadFault, WriteFault, NoMemory}
use Rattle.wf_lines.specs.BegunLines.{BegunLine}
use Rattle.wf_query.specs.Lines.{Ended, WrongAt, TakesQuery}

-- the end that a query makes that is not answered; want of memory is none
abbrev pub query_end : QueryFault → Option Ended
query_end (Wrong line) = Some (WrongAt line)
query_end WantsMemory = None

-- the text of a line is answered by what is known, with all that was made of it
abbrev pub IsAnswered : {K : Type 0} → (K → List ℕ → List ℕ → List ℕ → Type 0) → BegunLine K → Type 0
IsAnswered Words p = TakesQuery Words p.state p.number p.text p.state p.made

-- the end of a whole file makes no text
abbrev pub MakesNothing : {K : Type 0} → K → List ℕ → Type 0
MakesNothing k text = text ≡ []

-- and stops nothing
abbrev pub NeverStops : {K : Type 0} → K → Ended → List ℕ → Type 0
NeverStops k ending text = ⊥

-- the fault that ends the answering, where lines ended so
abbrev pub fault_by : LinesFault QueryFault → BatchFault
fault_by (Stopped (Wrong line)) = LineWrong line
fault_by (Stopped WantsMemory) = NoMemory
fault_by (Halted (TooLongHeld line)) = LineTooLong line
fault_by (Halted (LongFileHeld line)) = FileTooLong line
fault_by (Halted ReadingFailed) = ReadFault
fault_by (Halted WritingFailed) = WriteFault

-- what stays while queries are answered: which value answers them, and what is known of it
pub record Kept (K : Type 0) : Type 0 where
  pub name : ℕ
  pub known : K

-- How the program ends, as its status and the line on err tell it.
use Rattle.std.specs.Prelude.{ℕ, List, [], ◌++◌, Option, Some, None, Result, Ok, Err, codes, decimal}
use Rattle.wf_message.specs.declared.ending.Ending.{Ending}
use Rattle.wf_message.specs.declared.ending.Ending.TheVariants.{Done as HasDone, Usage as HasUsage, Stopped}
use Rattle.wf_message.specs.declared.ending.Stop.{Stop}
use Rattle.wf_message.specs.declared.ending.Stop.TheVariants.{Refused as StopsRefused, ReadFault as StopsReading, WriteFault as StopsWriting, NoMemory as StopsWanting}
use Rattle.wf_message.specs.declared.status.Status.{Status}
use Rattle.wf_message.specs.declared.status.Status.TheVariants.{Done as IsDone, Usage as IsUsage, Refused as IsRefused, ReadFault as IsReadFault, WriteFault as IsWriteFault, NoMemory as IsNoMemory}
use Rattle.wf_message.specs.Refusals.{refusal_text}

-- an end of the program: a refusal has the word of the file or the label that it is about, the number of a line if it is about one, and the text of the fault
pub data End : Type 0 where
  Done : End
  Usage : End
  Refused : List ℕ → Option ℕ → List ℕ → End
  ReadFault : List ℕ → End
  WriteFault : End
  NoMemory : End

-- the end that a stop is
abbrev pub end_of : Stop → End
end_of (StopsRefused place line refusal) = Refused place.word.now line (refusal_text refusal)
end_of (StopsReading place) = ReadFault place.word.now
end_of StopsWriting = WriteFault
end_of StopsWanting = NoMemory

-- the end of a step that may stop the program, where going on to the end is Done
abbrev pub end_after : {T : Type 0} → Result T Stop → End
end_after (Ok x) = Done
end_after (Err stop) = end_of stop

-- the end that an ending is
abbrev pub end_by : Ending → End
end_by HasDone = Done
end_by HasUsage = Usage
end_by (Stopped stop) = end_of stop

-- the status of an end
abbrev pub status_of : End → Status
status_of Done = IsDone
status_of Usage = IsUsage
status_of (Refused place line fault) = IsRefused
status_of (ReadFault place) = IsReadFault
status_of WriteFault = IsWriteFault
status_of NoMemory = IsNoMemory

-- what a refusal is about, in messages: a file or a label, or a line of a file
abbrev pub where_of : List ℕ → Option ℕ → List ℕ
where_of word None = word
where_of word (Some n) = word ++ (codes " line " ++ decimal n)

-- the line that err gets at an end
abbrev pub line_of : End → List ℕ
line_of Done = []
line_of Usage = codes "usage: wfprov COMMAND WORDS\n"
line_of (Refused place line fault) = codes "refused: " ++ (where_of place line ++ (codes ": " ++ (fault ++ codes "\n")))
line_of (ReadFault place) = codes "fault: reading " ++ (place ++ codes "\n")
line_of WriteFault = codes "fault: writing\n"
line_of NoMemory = codes "no memory\n"

-- The text of an event: one line of JSON without spaces, and without its newline.
use Rattle.std.specs.Prelude.{◌≡◌, ℕ, ◌^◌, ◌<◌, List, [], ◌∷◌, ◌++◌, Some, codes, decimal}
use Rattle.serde_json.specs.Data.{Data}
use Rattle.wf_model.specs.declared.event.Event.{Event}
use Rattle.wf_model.specs.declared.event.Event.TheVariants.{Start, Expand}
use Rattle.wf_model.specs.Lists.{IsIn}
use Rattle.wf_model.specs.Run.{IsName}
use Rattle.wf_json.specs.Canonical.{text_in_quotes, list_of}
use Rattle.wf_json.specs.Reading.{IsReading}
use Rattle.wf_events.specs.EventForm.{event_of}

-- {"start":"NAME"}, or {"expand":"NAME","production":P,"names":["A","B"]}
abbrev pub event_text : Event → List ℕ
event_text (Start n) = codes "{\"start\":" ++ (text_in_quotes n ++ codes "}")
event_text (Expand i p ns) =
    codes "{\"expand\":" ++ (text_in_quotes i ++ (codes ",\"production\":" ++ (decimal p ++ (codes ",\"names\":" ++ (list_of text_in_quotes ns ++ codes "}")))))

-- the names that stand in an event
abbrev pub names_in : Event → List (List ℕ)
names_in (Start n) = n ∷ []
names_in (Expand i p ns) = i ∷ ns

-- the number that stands in an event, and 0 where none does
abbrev pub number_in : Event → ℕ
number_in (Start n) = 0
number_in (Expand i p ns) = p

-- its names are names, and its number has 64 bits
pub record HasNames (e : Event) : Type 0 where
  pub names : (n : List ℕ) → IsIn n (names_in e) → IsName n
  pub number : number_in e < 2 ^ 64

-- the text of an event is read as the event
abbrev pub WrittenLaw : Type 0
WrittenLaw = (e : Event) → HasNames e → (d : Data) × IsReading (event_text e) d × (event_of d ≡ Some e)

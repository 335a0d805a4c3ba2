-- Texts that stand in JSON as they are.
use Rattle.std.specs.Prelude.{◌≡◌, ℕ, ◌^◌, ◌<◌, Bool, true, not, ◌&&◌, ◌==◌, nat_le, List}
use Rattle.std.specs.List.{list_all}
use Rattle.wf_model.specs.declared.event.Event.{Event}
use Rattle.wf_events.specs.Spelling.{event_text, names_in, number_in}

-- a byte that stands for itself in a text: printable ASCII, but no `"` and no `\`
abbrev pub is_plain : ℕ → Bool
is_plain b = nat_le 32 b && nat_le b 126 && not (b == 34) && not (b == 92)

-- a text of such bytes
abbrev pub is_plain_text : List ℕ → Bool
is_plain_text t = list_all is_plain t

-- the names of an event are such texts, and its number has 64 bits
abbrev pub IsPlain : Event → Type 0
IsPlain e = (list_all is_plain_text (names_in e) ≡ true) × (number_in e < 2 ^ 64)

-- a line is the text of an event with such names
abbrev pub IsTextOf : List ℕ → Event → Type 0
IsTextOf line e = (line ≡ event_text e) × IsPlain e

-- The text of an event is read as the event.
use Rattle.std.proofs.Common.{◌≡◌, ℕ, ◌^◌, ◌<◌, ◌≤◌, List, [], ◌∷◌, Option, Some, option_map, option_and_then, refl, sym, ap, ap₂, ◌∙◌, subst, arith, append-nil, codes}
use Rattle.json.specs.Lex.{tokens}
use Rattle.json.specs.Json as json
use Rattle.json.specs.Tree as tree
use Rattle.json.proofs.Printed.Decimals.{IsNumber-decimal}
use Rattle.json.proofs.Printed.Tokens.{tokens-print}
use Rattle.json.proofs.Printed.Trees.{value-json_tokens, ArePrintable-json_tokens}
use Rattle.serde_json.specs.Data.{Num, unsigned, Data, number, string, array, object, Items, item, no_members, member, put}
use Rattle.serde_json.specs.Read.{of_json, of_items, of_members, max_depth, read}
use Rattle.serde_json.specs.Written.{outline, items_outline, compact_text}
use Rattle.serde_json.proofs.Numbers.{number_of-decimal}
use Rattle.serde_json.proofs.Texts.{print-outline}
use Rattle.wf_model.specs.declared.event.Event.{Event}
use Rattle.wf_model.specs.declared.event.Event.TheVariants.{Start, Expand}
use Rattle.wf_json.specs.Forms.{text_form, items_form}
use Rattle.wf_json.specs.Reading.{IsReading}
use Rattle.wf_events.specs.EventForm.{event_of}
use Rattle.wf_events.specs.Spelling.{event_text, number_in, WrittenLaw}
use Rattle.wf_events.specs.Plain.{IsPlain, IsTextOf}
use Rattle.wf_events.proofs.PlainTexts.{event_plain}
use Rattle.wf_events.proofs.SpelledData.{strings, spelled, compact_text-spelled, IsUtf8-event_text}

-- a value without floats, written without spaces, is read as what its members give one after the other
read_compact : (d v : Data) → tree.HasNumbers (outline d) → tree.depth (outline d) ≤ max_depth → of_json (outline d) ≡ Some v → read (compact_text d) ≡ Some v
read_compact d v numbers shallow is =
    let j = outline d in
    ap (λ o. option_and_then of_json (option_and_then (λ p. json.if_last p.0 p.1) o))
    (ap (json.value max_depth) (ap tokens (sym (print-outline d)) ∙ tokens-print (tree.json_tokens j) (ArePrintable-json_tokens j numbers) ∙ sym (append-nil (tree.json_tokens j))) ∙ value-json_tokens j max_depth [] shallow)
    ∙ is

-- an event, as the object that is read: its members in the order of their keys
abbrev value_of : Event → Data
value_of (Start n) = object (member (codes "start") (string n) no_members)
value_of (Expand i p ns) = object (member (codes "expand") (string i) (member (codes "names") (array (strings ns)) (member (codes "production") (number (unsigned p)) no_members)))

strings_read : (ns : List (List ℕ)) → of_items (items_outline (strings ns)) ≡ Some (strings ns)
strings_read [] = refl
strings_read (n ∷ ns) = ap (λ o. option_map (item (string n)) o) (strings_read ns)

-- the value of the members in the order of the text, by what the number and the names give
abbrev members_read : List ℕ → Option Num → Option Items → Option Data
members_read i p ns =
    option_map object (option_and_then (λ d. option_and_then (λ e. of_members json.no_members (put (codes "names") e (put (codes "production") d (member (codes "expand") (string i) no_members)))) (option_map array ns)) (option_map number p))

value_read : (e : Event) → number_in e < 2 ^ 64 → of_json (outline (spelled e)) ≡ Some (value_of e)
value_read (Start n) h = refl
value_read (Expand i p ns) h = ap₂ (members_read i) (number_of-decimal p h) (strings_read ns)

strings_numbers : (ns : List (List ℕ)) → tree.ItemsHaveNumbers (items_outline (strings ns))
strings_numbers [] = tt
strings_numbers (n ∷ ns) = (tt, strings_numbers ns)

have_numbers : (e : Event) → number_in e < 2 ^ 64 → tree.HasNumbers (outline (spelled e))
have_numbers (Start n) h = (tt, tt)
have_numbers (Expand i p ns) h = (tt, (IsNumber-decimal p h, (strings_numbers ns, tt)))

strings_depth : (ns : List (List ℕ)) → tree.items_depth (items_outline (strings ns)) ≡ 0
strings_depth [] = refl
strings_depth (n ∷ ns) = omega (arith, strings_depth ns)

shallow : (e : Event) → tree.depth (outline (spelled e)) ≤ max_depth
shallow (Start n) = omega arith
shallow (Expand i p ns) = omega (arith, strings_depth ns)

names_read : (ns : List (List ℕ)) → items_form text_form (strings ns) ≡ Some ns
names_read [] = refl
names_read (n ∷ ns) = ap (λ o. option_map (λ ms. n ∷ ms) o) (names_read ns)

event_read : (e : Event) → event_of (value_of e) ≡ Some e
event_read (Start n) = refl
event_read (Expand i p ns) = ap (λ o. option_map (λ ms. Expand i p ms) o) (names_read ns)

read_back : (e : Event) → IsPlain e → (d : Data) × IsReading (event_text e) d × (event_of d ≡ Some e)
read_back e h =
    let reading = ap read (sym (compact_text-spelled e h)) ∙ read_compact (spelled e) (value_of e) (have_numbers e h.1) (shallow e) (value_read e h.1) in
    (value_of e, (IsUtf8-event_text e h, reading), event_read e)

pub written_law : WrittenLaw
written_law e h = read_back e (event_plain e h)

-- a line that is the text of an event is read as the event
pub text_read : (line : List ℕ) (e : Event) → IsTextOf line e → (d : Data) × IsReading line d × (event_of d ≡ Some e)
text_read line e h = subst (λ l. (d : Data) × IsReading l d × (event_of d ≡ Some e)) (sym h.0) (read_back e h.1)

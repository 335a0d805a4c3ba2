-- The text of an event is that of a value of JSON, with the members in the order of the text.
use Rattle.std.proofs.Common.{◌≡◌, ℕ, true, List, [], ◌∷◌, ◌++◌, IsUtf8, refl, sym, ap, ap₂, ◌∙◌, append_assoc, codes, decimal, flat_map}
use Rattle.std.proofs.lemmas.Bool.{and_parts}
use Rattle.std.proofs.lemmas.Fmt.{IsAscii-decimal}
use Rattle.std.proofs.lemmas.Str.{IsUtf8-append, IsUtf8-nil, IsUtf8-from_ascii}
use Rattle.std.specs.List.{join_by, list_all}
use Rattle.json.specs.Print.{escape_byte}
use Rattle.json.proofs.Printed.Utf8.{IsUtf8-are_ascii}
use Rattle.serde_json.specs.Data.{Data, unsigned, number, string, array, object, Items, no_items, item, no_members, member}
use Rattle.serde_json.specs.Written.{compact_text, items_text}
use Rattle.wf_model.specs.declared.event.Event.{Event}
use Rattle.wf_model.specs.declared.event.Event.TheVariants.{Start, Expand}
use Rattle.wf_json.specs.Canonical.{text_in_quotes, list_of}
use Rattle.wf_events.specs.Spelling.{event_text}
use Rattle.wf_events.specs.Plain.{is_plain_text, IsPlain}
use Rattle.wf_events.proofs.PlainTexts.{quoted_plain, IsUtf8-text_in_quotes}

-- names, as a list of texts
abbrev pub strings : List (List ℕ) → Items
strings [] = no_items
strings (n ∷ ns) = item (string n) (strings ns)

-- an event, as the object that its text spells
abbrev pub spelled : Event → Data
spelled (Start n) = object (member (codes "start") (string n) no_members)
spelled (Expand i p ns) = object (member (codes "expand") (string i) (member (codes "production") (number (unsigned p)) (member (codes "names") (array (strings ns)) no_members)))

-- the text of a name behind others
abbrev pub other_text : List ℕ → List ℕ
other_text n = codes "," ++ text_in_quotes n

others_text : (ns : List (List ℕ)) → list_all is_plain_text ns ≡ true → items_text true (strings ns) ≡ flat_map other_text ns ++ codes "]"
others_text [] e = refl
others_text (n ∷ ns) e =
    let p = and_parts (is_plain_text n) (list_all is_plain_text ns) e in
    ap₂ (λ (q r : List ℕ). codes "," ++ (q ++ r)) (quoted_plain n p.0) (others_text ns p.1) ∙ sym (append_assoc (other_text n) (flat_map other_text ns) (codes "]"))

list_text : (ns : List (List ℕ)) → list_all is_plain_text ns ≡ true → compact_text (array (strings ns)) ≡ list_of text_in_quotes ns
list_text [] e = refl
list_text (n ∷ ns) e =
    let p = and_parts (is_plain_text n) (list_all is_plain_text ns) e in
    ap₂ (λ (q r : List ℕ). codes "[" ++ (q ++ r)) (quoted_plain n p.0) (others_text ns p.1)
    ∙ ap (λ t. codes "[" ++ t) (sym (append_assoc (text_in_quotes n) (flat_map other_text ns) (codes "]")))

-- JSON without spaces is the text of the event
pub compact_text-spelled : (e : Event) → IsPlain e → compact_text (spelled e) ≡ event_text e
unfolding escape_byte
compact_text-spelled (Start n) h = ap (λ q. codes "{\"start\":" ++ (q ++ codes "}")) (quoted_plain n (and_parts (is_plain_text n) true h.0).0)
compact_text-spelled (Expand i p ns) h =
    let e = and_parts (is_plain_text i) (list_all is_plain_text ns) h.0 in
    ap₂ (λ (q l : List ℕ). codes "{\"expand\":" ++ (q ++ (codes ",\"production\":" ++ (decimal p ++ (codes ",\"names\":" ++ (l ++ codes "}")))))) (quoted_plain i e.0) (list_text ns e.1)

others_utf8 : (ns : List (List ℕ)) → list_all is_plain_text ns ≡ true → IsUtf8 (flat_map other_text ns)
others_utf8 [] e = IsUtf8-nil
others_utf8 (n ∷ ns) e =
    let p = and_parts (is_plain_text n) (list_all is_plain_text ns) e in
    IsUtf8-append (other_text n) (flat_map other_text ns) (IsUtf8-append (codes ",") (text_in_quotes n) (IsUtf8-are_ascii (codes ",") refl) (IsUtf8-text_in_quotes n p.0)) (others_utf8 ns p.1)

joined_utf8 : (ns : List (List ℕ)) → list_all is_plain_text ns ≡ true → IsUtf8 (join_by text_in_quotes (codes ",") ns)
joined_utf8 [] e = IsUtf8-nil
joined_utf8 (n ∷ ns) e =
    let p = and_parts (is_plain_text n) (list_all is_plain_text ns) e in
    IsUtf8-append (text_in_quotes n) (flat_map other_text ns) (IsUtf8-text_in_quotes n p.0) (others_utf8 ns p.1)

list_utf8 : (ns : List (List ℕ)) → list_all is_plain_text ns ≡ true → IsUtf8 (list_of text_in_quotes ns)
list_utf8 ns e =
    let J = join_by text_in_quotes (codes ",") ns in
    IsUtf8-append (codes "[") (J ++ codes "]") (IsUtf8-are_ascii (codes "[") refl) (IsUtf8-append J (codes "]") (joined_utf8 ns e) (IsUtf8-are_ascii (codes "]") refl))

-- it is UTF-8
pub IsUtf8-event_text : (e : Event) → IsPlain e → IsUtf8 (event_text e)
IsUtf8-event_text (Start n) h =
    let e = and_parts (is_plain_text n) true h.0 in
    IsUtf8-append (codes "{\"start\":") (text_in_quotes n ++ codes "}") (IsUtf8-are_ascii (codes "{\"start\":") refl)
    (IsUtf8-append (text_in_quotes n) (codes "}") (IsUtf8-text_in_quotes n e.0) (IsUtf8-are_ascii (codes "}") refl))
IsUtf8-event_text (Expand i p ns) h =
    let e = and_parts (is_plain_text i) (list_all is_plain_text ns) h.0 in
    let names = list_of text_in_quotes ns ++ codes "}" in
    let rest = decimal p ++ (codes ",\"names\":" ++ names) in
    let names_are : IsUtf8 names = IsUtf8-append (list_of text_in_quotes ns) (codes "}") (list_utf8 ns e.1) (IsUtf8-are_ascii (codes "}") refl) in
    let rest_is : IsUtf8 rest =
    IsUtf8-append (decimal p) (codes ",\"names\":" ++ names) (IsUtf8-from_ascii (decimal p) (IsAscii-decimal p h.1)) (IsUtf8-append (codes ",\"names\":") names (IsUtf8-are_ascii (codes ",\"names\":") refl) names_are) in
    IsUtf8-append (codes "{\"expand\":") (text_in_quotes i ++ (codes ",\"production\":" ++ rest)) (IsUtf8-are_ascii (codes "{\"expand\":") refl)
    (IsUtf8-append (text_in_quotes i) (codes ",\"production\":" ++ rest) (IsUtf8-text_in_quotes i e.0) (IsUtf8-append (codes ",\"production\":") rest (IsUtf8-are_ascii (codes ",\"production\":") refl) rest_is))

-- Lines that are cut into the parts of an event's text.
use Rattle.std.proofs.Common.{◌≡◌, ℕ, zero, suc, ◌^◌, ◌<◌, ◌≤◌, Bool, true, false, not, List, [], ◌∷◌, ◌++◌, length, take, drop, take-append-drop, get_or, Option, Some, None, IfSome, MatchOption, position, bytes_eq, refl, sym, ap, ap₂, ◌∙◌, subst, arith, append_assoc, append-nil, codes, decimal, flat_map}
use Rattle.std.proofs.lemmas.Bool.{and_parts, and_from, not-false}
use Rattle.std.proofs.lemmas.Grind.{flat_map-append}
use Rattle.std.proofs.lemmas.List.Quantifiers.{position-Some}
use Rattle.std.proofs.lemmas.Slice.Eq.{bytes_eq-Decides}
use Rattle.std.specs.List.{join_by, list_all}
use Rattle.wf_model.specs.declared.event.Event.TheVariants.{Start, Expand}
use Rattle.wf_json.specs.Canonical.{text_in_quotes}
use Rattle.wf_events.specs.Spelling.{event_text}
use Rattle.wf_events.specs.Plain.{is_plain, is_plain_text, IsTextOf}
use Rattle.wf_events.proofs.SpelledData.{other_text}

-- what is known of a value that there may be
pub if_some : {A : Type 0} (r : Option A) (P : Type 0) (Q : A → Type 0) → MatchOption r P Q → IfSome r Q
if_some None P Q h = tt
if_some (Some x) P Q h = h

-- a text ends before its closing quote
pub cut_whole : (bytes text quoted rest : List ℕ) (end : ℕ) → text ≡ take end bytes → quoted ≡ drop end bytes → quoted ≡ codes "\"" ++ rest → bytes ≡ text ++ 34 ∷ rest
cut_whole bytes text quoted rest end front back closed = sym (take-append-drop end bytes) ∙ ap₂ (λ (a b : List ℕ). a ++ b) (sym front) (sym back ∙ closed)

-- bytes that do not differ are the same
pub same_bytes : (xs ys : List ℕ) (differ : Bool) → differ ≡ not (bytes_eq xs ys) → differ ≡ false → xs ≡ ys
same_bytes xs ys differ told same = (bytes_eq-Decides xs ys).0 (not-false _ (sym told ∙ same))

-- one plain text more
pub all_plain_more : (ns : List (List ℕ)) (n : List ℕ) → list_all is_plain_text ns ≡ true → is_plain_text n ≡ true → list_all is_plain_text (ns ++ n ∷ []) ≡ true
all_plain_more [] n e h = and_from _ _ h refl
all_plain_more (m ∷ ns) n e h = let p = and_parts (is_plain_text m) (list_all is_plain_text ns) e in and_from _ _ p.0 (all_plain_more ns n p.1 h)

join_more : (ns : List (List ℕ)) (n : List ℕ) → 0 < length ns → join_by text_in_quotes (codes ",") (ns ++ n ∷ []) ≡ join_by text_in_quotes (codes ",") ns ++ other_text n
join_more [] n some = absurd (omega arith)
join_more (m ∷ ns) n some =
    ap (λ t. text_in_quotes m ++ t) (flat_map-append other_text ns (n ∷ []) ∙ ap (λ t. flat_map other_text ns ++ t) (append-nil (other_text n)))
    ∙ sym (append_assoc (text_in_quotes m) (flat_map other_text ns) (other_text n))

-- the first name of a list
pub first_joined : (bytes n rest : List ℕ) (ns : List (List ℕ)) → bytes ≡ codes "\"" ++ (n ++ 34 ∷ rest) → ns ≡ n ∷ [] → bytes ≡ join_by text_in_quotes (codes ",") ns ++ rest
first_joined bytes n rest ns cut is =
    cut ∙ ap (λ t. codes "\"" ++ t) (sym (append_assoc n (34 ∷ []) rest)) ∙ ap (λ t. t ++ rest) (sym (append-nil (text_in_quotes n))) ∙ ap (λ l. join_by text_in_quotes (codes ",") l ++ rest) (sym is)

-- one name more
pub joined_more : (bytes left n rest : List ℕ) (ns ms : List (List ℕ)) → 0 < length ns → bytes ≡ join_by text_in_quotes (codes ",") ns ++ left → left ≡ codes ",\"" ++ (n ++ 34 ∷ rest) → ms ≡ ns ++ n ∷ []
    → bytes ≡ join_by text_in_quotes (codes ",") ms ++ rest
joined_more bytes left n rest ns ms some so_far cut is =
    let J = join_by text_in_quotes (codes ",") ns in
    so_far ∙ ap (λ t. J ++ t) (cut ∙ ap (λ t. codes ",\"" ++ t) (sym (append_assoc n (34 ∷ []) rest))) ∙ sym (append_assoc J (other_text n) rest)
    ∙ ap (λ t. t ++ rest) (sym (join_more ns n some)) ∙ ap (λ l. join_by text_in_quotes (codes ",") l ++ rest) (sym is)

-- a line that is cut into the parts of a start event
pub start_is : (bytes name rest n : List ℕ) → bytes ≡ name ++ 34 ∷ rest → rest ≡ codes "}" → n ≡ name → is_plain_text name ≡ true → IsTextOf (codes "{\"start\":\"" ++ bytes) (Start n)
start_is bytes name rest n cut end same plain = (
  ap (λ t. codes "{\"start\":\"" ++ t) (cut ∙ ap (λ t. name ++ 34 ∷ t) end ∙ sym (append_assoc name (34 ∷ []) (codes "}"))) ∙ ap (λ m. event_text (Start m)) (sym same),
  (and_from _ _ (subst (λ m. is_plain_text m ≡ true) (sym same) plain) refl, omega arith),
)

-- what stands before the names
pub front_whole : (bytes instance number digits names rest : List ℕ) (p : ℕ) → bytes ≡ instance ++ 34 ∷ number → number ≡ codes ",\"production\":" ++ digits → digits ≡ decimal p ++ names → names ≡ codes ",\"names\":[" ++ rest
    → bytes ≡ instance ++ (codes "\",\"production\":" ++ (decimal p ++ (codes ",\"names\":[" ++ rest)))
front_whole bytes instance number digits names rest p cut word spelled opened =
    cut ∙ ap (λ t. instance ++ 34 ∷ t) (word ∙ ap (λ t. codes ",\"production\":" ++ t) (spelled ∙ ap (λ t. decimal p ++ t) opened))

-- a line that is cut into the parts of an expand event
pub expand_is : (bytes instance list rest i : List ℕ) (p : ℕ) (names ns : List (List ℕ)) → bytes ≡ instance ++ (codes "\",\"production\":" ++ (decimal p ++ (codes ",\"names\":[" ++ list))) → list ≡ join_by text_in_quotes (codes ",") names ++ rest → rest ≡ codes "]}"
    → i ≡ instance → ns ≡ names → is_plain_text instance ≡ true → list_all is_plain_text names ≡ true → p < 2 ^ 64 → IsTextOf (codes "{\"expand\":\"" ++ bytes) (Expand i p ns)
expand_is bytes instance list rest i p names ns cut joined end same same_names plain all fits =
    let J = join_by text_in_quotes (codes ",") names in
    let list_is : list ≡ (J ++ codes "]") ++ codes "}" = joined ∙ ap (λ t. J ++ t) end ∙ sym (append_assoc J (codes "]") (codes "}")) in
    let behind : List ℕ → List ℕ = λ l. codes ",\"production\":" ++ (decimal p ++ (codes ",\"names\":[" ++ l)) in
    let whole : codes "{\"expand\":\"" ++ bytes ≡ event_text (Expand instance p names) =
    ap (λ t. codes "{\"expand\":\"" ++ t) (cut ∙ ap (λ l. instance ++ 34 ∷ behind l) list_is ∙ sym (append_assoc instance (34 ∷ []) (behind ((J ++ codes "]") ++ codes "}")))) in
    let both : list_all is_plain_text (instance ∷ names) ≡ true = and_from _ _ plain all in
    subst (λ l. IsTextOf (codes "{\"expand\":\"" ++ bytes) (Expand i p l)) (sym same_names) (subst (λ n. IsTextOf (codes "{\"expand\":\"" ++ bytes) (Expand n p names)) (sym same) (whole, (both, fits)))

-- The text of an event that was appended part by part.
use Rattle.std.proofs.Common.{◌≡◌, ℕ, List, ◌++◌, OnOk, sym, ap₂, ◌∙◌, subst, append_assoc, codes, decimal}
use Rattle.std.specs.declared.result.Result.{Result}
use Rattle.wf_model.specs.declared.event.Event.{Event}
use Rattle.wf_model.specs.declared.event.Event.TheVariants.{Expand}
use Rattle.wf_json.specs.Canonical.{text_in_quotes, list_of}
use Rattle.wf_events.specs.Spelling.{event_text}

regroup : (old a b c d e f g : List ℕ) → ((((((old ++ a) ++ b) ++ c) ++ d) ++ e) ++ f) ++ g ≡ old ++ (a ++ (b ++ (c ++ (d ++ (e ++ (f ++ g))))))
regroup old a b c d e f g = simp append_assoc

parts_appended : (old a b c d e f g one two three four five six : List ℕ) → one ≡ old ++ a → two ≡ one ++ b → three ≡ two ++ c → four ≡ three ++ d → five ≡ four ++ e → six ≡ five ++ f → six ++ g ≡ old ++ (a ++ (b ++ (c ++ (d ++ (e ++ (f ++ g))))))
parts_appended old a b c d e f g one two three four five six p q r s t u =
    let whole : six ++ g ≡ ((((((old ++ a) ++ b) ++ c) ++ d) ++ e) ++ f) ++ g = cc in
    whole ∙ regroup old a b c d e f g

-- the parts of an expand event
pub expand_appended : {E : Type 0} (result : Result (Unit {0}) E) (i : List ℕ) (p : ℕ) (ns : List (List ℕ)) (old one two three four five six new digits : List ℕ) → one ≡ old ++ codes "{\"expand\":" → two ≡ one ++ text_in_quotes i → three ≡ two ++ codes ",\"production\":"
    → digits ≡ decimal p → four ≡ three ++ digits → five ≡ four ++ codes ",\"names\":" → six ≡ five ++ list_of text_in_quotes ns → OnOk result (new ≡ six ++ codes "}") → OnOk result (new ≡ old ++ event_text (Expand i p ns))
expand_appended result i p ns old one two three four five six new digits a b c d e f g last =
    subst (λ t. OnOk result (new ≡ t))
    (parts_appended old (codes "{\"expand\":") (text_in_quotes i) (codes ",\"production\":") (decimal p) (codes ",\"names\":") (list_of text_in_quotes ns) (codes "}") one two three four five six a b c (subst (λ t. four ≡ three ++ t) d e) f g) last

-- the event of these parts
pub expand_written : {E : Type 0} (result : Result (Unit {0}) E) (event : Event) (old new i j : List ℕ) (p : ℕ) (ns ms : List (List ℕ)) → event ≡ Expand i p ns → j ≡ i → ms ≡ ns → OnOk result (new ≡ old ++ event_text (Expand j p ms))
    → OnOk result (new ≡ old ++ event_text event)
expand_written result event old new i j p ns ms is instance names done =
    subst (λ e. OnOk result (new ≡ old ++ event_text e)) (ap₂ (λ (n : List ℕ) (l : List (List ℕ)). Expand n p l) instance names ∙ sym is) done

-- The line of an event that was appended part by part.
use Rattle.std.proofs.Common.{◌≡◌, ℕ, zero, suc, ◌+◌, ◌-◌, ◌<◌, List, [], ◌∷◌, ◌++◌, OnOk, sym, ap, ap₂, ◌∙◌, subst, arith, append_assoc, append-nil, codes, decimal, flat_map}
use Rattle.std.proofs.lemmas.Grind.{flat_map-append}
use Rattle.std.specs.declared.result.Result.{Result}
use Rattle.std.specs.List.{join_by}
use Rattle.wf_model.specs.declared.event.Event.TheVariants.{Expand}
use Rattle.wf_json.specs.Canonical.{text_in_quotes}
use Rattle.numbered_names.specs.Names.{numbered_name, numbered_names}
use Rattle.wf_gen.specs.Lines.{event_line}
use Rattle.numbered_names.proofs.Numbered.{names-append}

module _ (text : List ℕ → List ℕ) where
  -- one name more
  pub name_more : (first k : ℕ) (old now later : List ℕ) → now ≡ old ++ flat_map text (numbered_names first k) → later ≡ now ++ text (numbered_name (first + k)) → later ≡ old ++ flat_map text (numbered_names first (k + 1))
  name_more first k old now later so_far more =
      more ∙ (ap (λ t. t ++ text (numbered_name (first + k))) so_far ∙ (append_assoc old (flat_map text (numbered_names first k)) (text (numbered_name (first + k)))
      ∙ ap (λ t. old ++ t) (ap (λ t. flat_map text (numbered_names first k) ++ t) (sym (append-nil (text (numbered_name (first + k))))) ∙ sym (flat_map-append text (numbered_names first k) (numbered_name (first + k) ∷ []))
      ∙ ap (flat_map text) (names-append first k 1))))

  first_joined : (between : List ℕ) (first count : ℕ) (old one : List ℕ) → 0 < count → one ≡ old ++ text (numbered_name first)
      → one ++ flat_map (λ n. between ++ text n) (numbered_names (first + 1) (count - 1)) ≡ old ++ join_by text between (numbered_names first count)
  first_joined between first zero old one some a = absurd (omega arith)
  first_joined between first (suc count) old one some a =
      let e : first + 1 ≡ suc first = omega arith in
      let f : suc count - 1 ≡ count = omega arith in
      ap₂ (λ (k n : ℕ). one ++ flat_map (λ n. between ++ text n) (numbered_names k n)) e f
      ∙ (ap (λ t. t ++ flat_map (λ n. between ++ text n) (numbered_names (suc first) count)) a ∙ append_assoc old (text (numbered_name first)) (flat_map (λ n. between ++ text n) (numbered_names (suc first) count)))

  -- the first name, and the others behind it
  pub names_joined : {E : Type 0} (result : Result (Unit {0}) E) (between : List ℕ) (first count : ℕ) (old one new : List ℕ) → 0 < count → one ≡ old ++ text (numbered_name first)
      → OnOk result (new ≡ one ++ flat_map (λ n. between ++ text n) (numbered_names (first + 1) (count - 1))) → OnOk result (new ≡ old ++ join_by text between (numbered_names first count))
  names_joined result between first count old one new some a last = subst (λ t. OnOk result (new ≡ t)) (first_joined between first count old one some a) last

regroup : (old a q b d c o j s r n : List ℕ) → ((((((old ++ a) ++ q) ++ b) ++ d) ++ (c ++ o)) ++ j) ++ (s ++ (r ++ n)) ≡ old ++ ((a ++ (q ++ (b ++ (d ++ (c ++ ((o ++ (j ++ s)) ++ r)))))) ++ n)
regroup old a q b d c o j s r n = simp append_assoc

parts_appended : (old a q b d c o j s r n one two three four five six : List ℕ) → one ≡ old ++ a → two ≡ one ++ q → three ≡ two ++ b → four ≡ three ++ d → five ≡ four ++ (c ++ o) → six ≡ five ++ j
    → six ++ (s ++ (r ++ n)) ≡ old ++ ((a ++ (q ++ (b ++ (d ++ (c ++ ((o ++ (j ++ s)) ++ r)))))) ++ n)
parts_appended old a q b d c o j s r n one two three four five six e f g h k l =
    let whole : six ++ (s ++ (r ++ n)) ≡ ((((((old ++ a) ++ q) ++ b) ++ d) ++ (c ++ o)) ++ j) ++ (s ++ (r ++ n)) = cc in
    whole ∙ regroup old a q b d c o j s r n

-- the parts of the line of an expand event
pub line_appended : {E : Type 0} (result : Result (Unit {0}) E) (i p first count : ℕ) (old one two three four five six new : List ℕ) → one ≡ old ++ codes "{\"expand\":" → two ≡ one ++ text_in_quotes (numbered_name i)
    → three ≡ two ++ codes ",\"production\":" → four ≡ three ++ decimal p → five ≡ four ++ codes ",\"names\":[" → six ≡ five ++ join_by text_in_quotes (codes ",") (numbered_names first count)
    → OnOk result (new ≡ six ++ codes "]}\n") → OnOk result (new ≡ old ++ event_line (Expand (numbered_name i) p (numbered_names first count)))
line_appended result i p first count old one two three four five six new a b c d e f last =
    subst (λ t. OnOk result (new ≡ t))
    (parts_appended old (codes "{\"expand\":") (text_in_quotes (numbered_name i)) (codes ",\"production\":") (decimal p) (codes ",\"names\":") (codes "[") (join_by text_in_quotes (codes ",") (numbered_names first count)) (codes "]") (codes "}") (codes "\n")
    one two three four five six a b c d e f) last

-- Values that are picked by names, as the entries and exits of a head.
use Rattle.std.proofs.Common.{◌≡◌, ℕ, ◌+◌, Bool, cond, List, [], ◌∷◌, ◌++◌, map, length, get_or, refl, sym, ap, ◌∙◌, subst, ⊎_elim, arith}
use Rattle.std.specs.Prelude.{count_by, sum_by}
use Rattle.std.proofs.lemmas.List.Sums.{sum_by-append, sum_by-cons}
use Rattle.wf_model.specs.Lists.{IsIn, AllDiffer}
use Rattle.wf_model.specs.Grammar.{Inner}
use Rattle.wf_model.specs.WellFormed.{same_inner}
use Rattle.wf_model.proofs.Lists.{in_append_left, in_append_right, in_append_cases, in_map, in_map_from}
use Rattle.wf_form.specs.Ends.{IsPortOf, AreMetOnce}
use Rattle.wf_spec.specs.Naming.{place_of}
use Rattle.wf_form.specs.Forming.{NamesEach}
use Rattle.wf_form.proofs.Filled.{same_sums, same_length, filled}
use Rattle.wf_form.proofs.Counting.{in_counted, counted_once, differ_counted}
use Rattle.wf_spec.proofs.Finding.{place_first, place_later}
use Rattle.wf_model.proofs.Mapping.{map_same}

-- the value that stands where a name stands
abbrev pub pick : {A : Type 0} → List (List ℕ) → List A → A → List ℕ → A
pick names values d n = get_or values (place_of names n) d

pick_first : {A : Type 0} (names : List (List ℕ)) (values : List A) (d : A) (m : List ℕ) (v : A) → pick (m ∷ names) (v ∷ values) d m ≡ v
pick_first names values d m v = ap (λ k. get_or (v ∷ values) k d) (place_first names m m refl)

pick_later : {A : Type 0} (names : List (List ℕ)) (values : List A) (d : A) (m n : List ℕ) (v : A) → (n ≡ m → ⊥) → pick (m ∷ names) (v ∷ values) d n ≡ pick names values d n
pick_later names values d m n v h = ap (λ k. get_or (v ∷ values) k d) (place_later names m n h)

-- all values, by their names
pub picked : {A : Type 0} (names : List (List ℕ)) (values : List A) (d : A) → AllDiffer names → length names ≡ length values → map (pick names values d) names ≡ values
picked [] [] d a e = refl
picked [] (v ∷ values) d a e = absurd (omega arith)
picked (m ∷ names) [] d a e = absurd (omega arith)
picked (m ∷ names) (v ∷ values) d a e =
    ap (λ w. w ∷ map (pick (m ∷ names) (v ∷ values) d) names) (pick_first names values d m v)
    ∙ ap (λ ws. v ∷ ws)
    (map_same (pick (m ∷ names) (v ∷ values) d) (pick names values d) names (λ n i. pick_later names values d m n v (λ q. a.0 (subst (λ z. IsIn z names) q i)))
    ∙ picked names values d a.1 (omega arith))

-- links to the inputs of a body, or from its outputs: each port that there is has one, and each name of the head's ports has one value
pub record AreTidy (counts : List ℕ) (ports : List (List ℕ)) (edges : List Inner) (names : List (List ℕ)) (values : List Inner) : Type 0 where
  pub edges_within : (i : Inner) → IsIn i edges → IsPortOf counts i
  pub values_within : (i : Inner) → IsIn i values → IsPortOf counts i
  pub at_most_once : AllDiffer (edges ++ values)
  pub at_least_once : (i : Inner) → IsPortOf counts i → IsIn i (edges ++ values)
  pub known : (n : List ℕ) → IsIn n names → IsIn n ports
  pub names_differ : AllDiffer names
  pub each : (n : List ℕ) → IsIn n ports → IsIn n names

-- the values by the ports of the head are the values, in another order
same_count : (test : Inner → Bool) (ports names : List (List ℕ)) (values : List Inner) (d : Inner) → AllDiffer ports → AllDiffer names → ((n : List ℕ) → IsIn n ports → IsIn n names)
    → ((n : List ℕ) → IsIn n names → IsIn n ports) → length names ≡ length values → count_by test (map (pick names values d) ports) ≡ count_by test values
same_count test ports names values d a b g h e =
    through ports ∙ (same_sums (λ n. cond {A = ℕ} (test (pick names values d n)) 1 0) ports names a b g h ∙ (sym (through names) ∙ ap (count_by test) (picked names values d b e)))
  where
    through : (ns : List (List ℕ)) → count_by test (map (pick names values d) ns) ≡ sum_by (λ n. cond {A = ℕ} (test (pick names values d n)) 1 0) ns
    through [] = refl
    through (n ∷ ns) =
        sum_by-cons _ (pick names values d n) (map (pick names values d) ns)
        ∙ (ap (λ k. cond {A = ℕ} (test (pick names values d n)) 1 0 + k) (through ns) ∙ sym (sum_by-cons _ n ns))

count_after : (test : Inner → Bool) (edges some other : List Inner) → count_by test some ≡ count_by test other → count_by test (edges ++ some) ≡ count_by test (edges ++ other)
count_after test edges some other e =
    sum_by-append (λ i. cond {A = ℕ} (test i) 1 0) edges some ∙ (ap (λ k. count_by test edges + k) e ∙ sym (sum_by-append (λ i. cond {A = ℕ} (test i) 1 0) edges other))

-- tidy links meet each port once
pub tidy_met : (counts : List ℕ) (ports : List (List ℕ)) (edges : List Inner) (names : List (List ℕ)) (values : List Inner) (d : Inner) → AllDiffer ports → length names ≡ length values
    → AreTidy counts ports edges names values → AreMetOnce counts (edges ++ map (pick names values d) ports) × NamesEach ports names
tidy_met counts ports edges names values d differ long t = (
  record {
    within = λ i h. ⊎_elim (t.edges_within i) (λ b. t.values_within i (value_of i b)) (in_append_cases i edges (map (pick names values d) ports) h);
    once = λ i h. count_after (same_inner i) edges (map (pick names values d) ports) values (same_count (same_inner i) ports names values d differ t.names_differ t.each t.known long)
        ∙ counted_once i (edges ++ values) t.at_most_once (t.at_least_once i h);
  },
  record { as_many = same_length names ports t.names_differ differ t.known t.each; each = t.each },
)
  where
    value_of : (i : Inner) → IsIn i (map (pick names values d) ports) → IsIn i values
    value_of i h =
        let r = in_map_from (pick names values d) i ports h in
        subst (λ z. IsIn z values) (sym r.2) (subst (IsIn (pick names values d r.0)) (picked names values d t.names_differ long) (in_map (pick names values d) r.0 names (t.each r.0 r.1)))

-- and links that meet each port once are tidy
pub met_tidy : (counts : List ℕ) (ports : List (List ℕ)) (edges : List Inner) (names : List (List ℕ)) (values : List Inner) (d : Inner) → AllDiffer ports → length names ≡ length values
    → AreMetOnce counts (edges ++ map (pick names values d) ports) → NamesEach ports names → AreTidy counts ports edges names values
met_tidy counts ports edges names values d differ long met named =
    let f = filled ports names differ named.each named.as_many in
    let same : (i : Inner) → count_by (same_inner i) (edges ++ map (pick names values d) ports) ≡ count_by (same_inner i) (edges ++ values) =
    λ i. count_after (same_inner i) edges (map (pick names values d) ports) values (same_count (same_inner i) ports names values d differ f.0 named.each f.1 long) in
    let in_values : (i : Inner) → IsIn i values → IsPortOf counts i =
    λ i h. (let r = in_map_from (pick names values d) i names (subst (IsIn i) (sym (picked names values d f.0 long)) h) in
    met.within i (in_append_right i edges (map (pick names values d) ports) (subst (λ z. IsIn z (map (pick names values d) ports)) (sym r.2) (in_map (pick names values d) r.0 ports (f.1 r.0 r.1))))) in
    let in_edges : (i : Inner) → IsIn i edges → IsPortOf counts i = λ i h. met.within i (in_append_left i edges (map (pick names values d) ports) h) in
    record {
      edges_within = in_edges;
      values_within = in_values;
      at_most_once = differ_counted (edges ++ values) (λ i h. sym (same i) ∙ met.once i (⊎_elim (in_edges i) (in_values i) (in_append_cases i edges values h)));
      at_least_once = λ i h. in_counted i (edges ++ values) (let e = same i in let o = met.once i h in omega arith);
      known = f.1;
      names_differ = f.0;
      each = named.each;
    }

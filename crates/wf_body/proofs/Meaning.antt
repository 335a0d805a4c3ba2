-- Where paths from sources begin and end, and their matrices.
use Rattle.std.proofs.Common.{◌≡◌, ◌↔◌, ℕ, ◌+◌, ◌<◌, ◌≤◌, ◌⊎◌, IsTrue, List, [], map, length, get_or, set, take, Option, Some, None, refl, sym, ap, ◌∙◌, subst, inl, inr, ⊎_elim, arith, length-take}
use Rattle.std.proofs.lemmas.Bool.{cases_lt, cases_eq}
use Rattle.std.proofs.lemmas.List.{get_or-set_same, get_or-set_other, get_or-take, get_or_past, length-map}
use Rattle.wf_model.specs.declared.body.Inner.{Inner as InnerHeld}
use Rattle.wf_model.specs.declared.numbers.PosNo.{PosNo}
use Rattle.wf_model.specs.Meaning.{inner_of}
use Rattle.wf_model.specs.declared.numbers.Side.TheVariants.{Input, Output}
use Rattle.wf_model.specs.Lists.{IsAt, here, onward}
use Rattle.wf_model.specs.Grammar.{Grammar, Assignment, Inner, module_at, production_at, body_of, head_of, inputs_of, outputs_of}
use Rattle.wf_model.specs.Links.{Port, Link, input, output, wiring, place_links, body_links, IsLinked, Path}
use Rattle.wf_model.specs.WellFormed.{IsWellFormed, IsWellFormedBody}
use Rattle.wf_model.proofs.Level.{wiring_from, pair_links_from, place_links_from}
use Rattle.wf_model.proofs.Lists.{at_below, at_in, at_is, is_at, in_append_cases}
use Rattle.bool_mat.specs.Matrix.{Matrix, has}
use Rattle.bool_mat.proofs.Rows.{has_none}
use Rattle.wf_body.specs.Body.{ToInput, ToExit, at_port}
use Rattle.wf_body.specs.Matrices.{IsMatrixOf, LeadsToExits, LeadsToInputs, sources_of}
use Rattle.wf_body.specs.Words.{AreTold, source, word_at}
use Rattle.wf_body.proofs.Feeding.{few_at}
use Rattle.wf_body.proofs.Links.{led_to}
use Rattle.wf_body.proofs.Telling.{source_apart}
use Rattle.wf_body.proofs.Turning.{resized, same_pairs}

-- a link that begins at a source
source_linked : (g : Grammar) (d : Assignment) (p : ℕ) (from : Option PosNo) (x : ℕ) (z : Port (Option ℕ)) → IsWellFormedBody g p → IsLinked (body_links g d p) (source from x) z → x < sources_of g p from
source_linked g d p from x z wf h =
    let l : Link (Option ℕ) = record { from = source from x; to = z } in
    ⊎_elim
    (λ w. ⊎_elim
    (λ a. at_position from a.0 a.1 a.2 a.3 a.4 a.5)
    (λ a. at_head from a.0 a.1 a.2)
    (wiring_from g p wf l w))
    (λ a. let q = place_links_from g d l 0 (body_of g p) a in
    let w = pair_links_from g d q.1 (Some (0 + q.0)) l q.3 in
    absurd (source_apart from (0 + q.0) w.0 x (ap (λ (k : Link (Option ℕ)). k.from) w.5)))
    (in_append_cases l (wiring g p) (place_links g d 0 (body_of g p)) h)
  where
    at_head : (f : Option PosNo) (i : ℕ) → source f x ≡ input None i → i < inputs_of g (head_of g p) → x < sources_of g p f
    at_head None i e b = subst (λ n. n < inputs_of g (head_of g p)) (sym (ap (λ (k : Port (Option ℕ)). k.number) e)) b
    at_head (Some s) i e b = absurd (let q : Output ≡ Input = ap (λ (k : Port (Option ℕ)). k.side) e in cc)

    at_position : (f : Option PosNo) (k i m : ℕ) → source f x ≡ output (Some k) i → IsAt m k (body_of g p) → i < outputs_of g m → x < sources_of g p f
    at_position None k i m e a b = absurd (let q : None ≡ Some k = ap (λ (y : Port (Option ℕ)). y.owner) e in cc)
    at_position (Some s) k i m e a b =
        let q : Some s.0 ≡ Some k = ap (λ (y : Port (Option ℕ)). y.owner) e in
        let r : s.0 ≡ k = cc in
        let same : get_or (body_of g p) s.0 0 ≡ m = ap (λ n. get_or (body_of g p) n 0) r ∙ at_is m k (body_of g p) 0 a in
        subst (λ n. x < outputs_of g n) (sym same) (subst (λ n. n < outputs_of g m) (sym (ap (λ (y : Port (Option ℕ)). y.number) e)) b)

-- a path from a source to another port begins at one that is there
pub source_below : (g : Grammar) (d : Assignment) (p : ℕ) (from : Option PosNo) (x : ℕ) (s y : Port (Option ℕ)) → IsWellFormedBody g p → s ≡ source from x → Path (body_links g d p) s y → (s ≡ y → ⊥) → x < sources_of g p from
source_below g d p from x s y wf e here n = absurd (n refl)
source_below g d p from x s y wf e (onward {y = z} l w) n = source_linked g d p from x z wf (subst (λ q. IsLinked (body_links g d p) q z) e l)

-- an input to which a path leads is there
pub input_below : (g : Grammar) (d : Assignment) (p : ℕ) (from : Option PosNo) (x k j : ℕ) → IsWellFormedBody g p → ToInput g d p (source from x) k j → j < inputs_of g (get_or (body_of g p) k 0)
input_below g d p from x k j wf h =
    ⊎_elim (λ e. absurd (source_apart from k j x e))
    (λ s. ⊎_elim
    (λ a. let t = wf.entries_to (at_port k j) (at_in (at_port k j) a.0 (production_at g p).entries a.1) in there t.0 t.1 t.2)
    (λ a. let t = wf.edges_to a.0 a.1 in let u = subst (λ (q : Inner). (m : ℕ) × IsAt m q.position (body_of g p) × (q.port < inputs_of g m)) a.2 t in there u.0 u.1 u.2)
    s)
    (((led_to g d p (source from x)).inputs k j).0 h)
  where
    there : (m : ℕ) → IsAt m k (body_of g p) → j < inputs_of g m → j < inputs_of g (get_or (body_of g p) k 0)
    there m a b = subst (λ n. j < inputs_of g n) (sym (at_is m k (body_of g p) 0 a)) b

-- past the first n words there are none
past_words : (n j x : ℕ) (row : List ℕ) → n ≤ j → IsTrue (has (get_or (take n row) j 0) x) → ⊥
past_words n j x row l t =
    let s = length-take n row in
    let l' : length (take n row) ≤ j = omega arith in
    has_none x (subst (λ z. IsTrue (has z x)) (get_or_past (take n row) j 0 l') t)

-- the words of the inputs of a position
inputs_mean : (g : Grammar) (d : Assignment) (p k n count : ℕ) (from : Option PosNo) (ins outs : List (List ℕ)) → IsWellFormedBody g p → AreTold g d p from ins outs → k < length (body_of g p) → n ≡ inputs_of g (get_or (body_of g p) k 0) → count ≡ sources_of g p from →
    (i j : ℕ) → ((i < count) × IsTrue (has (get_or (take n (get_or ins k [])) j 0) i)) ↔ ToInput g d p (source from i) k j
inputs_mean g d p k n count from ins outs wf told b size all i j = (
  (λ r. elim (cases_lt j n) [
    | inl l ↦ ((told.each k b).inputs j i).0 (subst (λ z. IsTrue (has z i)) (get_or-take n (get_or ins k []) j 0 l) r.1)
    | inr l ↦ absurd (past_words n j i (get_or ins k []) l r.1)
  ]),
  λ h. let t = ((told.each k b).inputs j i).1 h in
      let l : j < n = subst (λ z. j < z) (sym size) (input_below g d p from i k j wf h) in (
        subst (λ z. i < z) (sym all) (source_below g d p from i (source from i) (input (Some k) j) wf refl h (source_apart from k j i)),
        subst (λ z. IsTrue (has z i)) (sym (get_or-take n (get_or ins k []) j 0 l)) t,
      ),
)

-- no source is an output of the head
pub exit_apart : (from : Option PosNo) (o x : ℕ) → source from x ≡ output None o → ⊥
exit_apart None o x e = let q : Input ≡ Output = ap (λ (z : Port (Option ℕ)). z.side) e in cc
exit_apart (Some s) o x e = let q : Some s.0 ≡ None = ap (λ (z : Port (Option ℕ)). z.owner) e in cc

-- the words of the outputs of the head
exits_mean : (g : Grammar) (d : Assignment) (p n count : ℕ) (from : Option PosNo) (ins outs : List (List ℕ)) (row : List ℕ) → IsWellFormedBody g p → AreTold g d p from ins outs → ((o : ℕ) (i : Inner) → IsAt i o (production_at g p).exits → get_or row o 0 ≡ word_at outs i.position i.port) →
    n ≡ length (production_at g p).exits → count ≡ sources_of g p from → (i o : ℕ) → ((i < count) × IsTrue (has (get_or (take n row) o 0) i)) ↔ ToExit g d p (source from i) o
exits_mean g d p n count from ins outs row wf told words size all i o = (
  (λ r. elim (cases_lt o n) [
    | inl l ↦ let l' : o < length (production_at g p).exits = omega arith in
        let at : IsAt (the_exit o) o (production_at g p).exits = is_at o (production_at g p).exits no_port l' in
        let f = wf.exits_from (the_exit o) (at_in (the_exit o) o (production_at g p).exits at) in
        let b = at_below f.0 (the_exit o).position (body_of g p) f.1 in
        law.1 (inr (
          the_exit o,
          at,
          ((told.each (the_exit o).position b).outputs f.0 (the_exit o).port i f.1 f.2).0
              (subst (λ z. IsTrue (has z i)) (get_or-take n row o 0 l ∙ words o (the_exit o) at) r.1),
        ))
    | inr l ↦ absurd (past_words n o i row l r.1)
  ]),
  λ h. ⊎_elim (λ e. absurd (exit_apart from o i e))
      (λ s. let f = wf.exits_from s.0 (at_in s.0 o (production_at g p).exits s.1) in
      let b = at_below f.0 s.0.position (body_of g p) f.1 in
      let l' = at_below s.0 o (production_at g p).exits s.1 in
      let l : o < n = omega arith in (
        subst (λ z. i < z) (sym all) (source_below g d p from i (source from i) (output None o) wf refl h (exit_apart from o i)),
        subst (λ z. IsTrue (has z i)) (sym (get_or-take n row o 0 l ∙ words o s.0 s.1)) (((told.each s.0.position b).outputs f.0 s.0.port i f.1 f.2).1 s.2),
      ))
      (law.0 h),
)
  where
    no_port : Inner
    no_port = record { position = 0; port = 0 }

    the_exit : ℕ → Inner
    the_exit q = get_or (production_at g p).exits q no_port

    law : ToExit g d p (source from i) o ↔ ((source from i ≡ output None o) ⊎ ((e : Inner) × IsAt e o (production_at g p).exits × Path (body_links g d p) (source from i) (output (Some e.position) e.port)))
    law = (led_to g d p (source from i)).exits o

-- an exit leads from an output that is there
pub exit_within : (g : Grammar) (p o : ℕ) (i : Inner) → IsWellFormed g → p < length g.productions → IsAt i o (production_at g p).exits → (i.position < length (body_of g p)) × (i.port < 64)
exit_within g p o i wf h a =
    let f = (wf.bodies p h).exits_from i (at_in i o (production_at g p).exits a) in
    let b = few_at g p f.0 i.position wf h f.1 in
    let fp : i.port < outputs_of g f.0 = f.2 in
    let fo : outputs_of g f.0 ≤ 64 = b.3 in
    (at_below f.0 i.position (body_of g p) f.1, omega arith)

pub few_exits : (g : Grammar) (p : ℕ) (xs : List InnerHeld) → IsWellFormed g → p < length g.productions → map inner_of xs ≡ (production_at g p).exits → (length xs ≡ outputs_of g (head_of g p)) × (length xs ≤ 64)
few_exits g p xs wf h same =
    let e : length xs ≡ outputs_of g (head_of g p) = sym (length-map xs inner_of) ∙ (ap length same ∙ (wf.bodies p h).one_exit_each) in
    let w = wf.modules (module_at g (head_of g p)) (at_in (module_at g (head_of g p)) (head_of g p) g.modules (is_at (head_of g p) g.modules _ (wf.heads p h))) in
    let few = w.few_outputs in
    (e, omega arith)

-- the words of the first n exits
abbrev pub AtExits : List (List ℕ) → List Inner → ℕ → List ℕ → Type 0
AtExits outs es n words = (o : ℕ) → o < n → (i : Inner) → IsAt i o es → get_or words o 0 ≡ word_at outs i.position i.port

pub exits_more : (outs : List (List ℕ)) (es : List Inner) (n word : ℕ) (i : Inner) (words : List ℕ) → AtExits outs es n words → n < length words → IsAt i n es → word ≡ word_at outs i.position i.port → AtExits outs es (n + 1) (set words n word)
exits_more outs es n word i words h room a e o l j b =
    elim (cases_eq o n) [
      | inl q ↦ let same : i ≡ j = sym (at_is i n es i a) ∙ at_is j n es i (subst (λ z. IsAt j z es) q b) in
          subst (λ z. get_or (set words n word) z 0 ≡ word_at outs j.position j.port) (sym q)
          (get_or-set_same words n word 0 room ∙ (e ∙ ap (λ (z : Inner). word_at outs z.position z.port) same))
      | inr q ↦ let l' : o < n = omega arith in get_or-set_other words n o word 0 q ∙ h o l' j b
    ]

-- how many outputs of a position there are, as sources
pub count_sources : (g : Grammar) (p m n : ℕ) (from : Option PosNo) (s : PosNo) → from ≡ Some s → IsAt m s.0 (body_of g p) → n ≡ outputs_of g m → n ≡ sources_of g p from
count_sources g p m n from s e a h = h ∙ (ap (outputs_of g) (sym (at_is m s.0 (body_of g p) 0 a)) ∙ ap (sources_of g p) (sym e))

pub leads_to_inputs : (g : Grammar) (d : Assignment) (p k count : ℕ) (from : Option PosNo) (ins outs : List (List ℕ)) (words : List ℕ) (m : Matrix) → IsWellFormedBody g p → AreTold g d p from ins outs → k < length (body_of g p) →
    words ≡ take (inputs_of g (get_or (body_of g p) k 0)) (get_or ins k []) → length words ≡ inputs_of g (get_or (body_of g p) k 0) → count ≡ sources_of g p from →
    IsMatrixOf count (length words) (λ i j. (i < count) × IsTrue (has (get_or words j 0) i)) m → LeadsToInputs g d p from k m
leads_to_inputs g d p k count from ins outs words m wf told b e size all h =
    same_pairs (sources_of g p from) (inputs_of g (get_or (body_of g p) k 0)) (λ i j. (i < count) × IsTrue (has (get_or words j 0) i)) (λ i j. ToInput g d p (source from i) k j) m
    (subst (λ (w : List ℕ). (i j : ℕ) → ((i < count) × IsTrue (has (get_or w j 0) i)) ↔ ToInput g d p (source from i) k j) (sym e)
    (inputs_mean g d p k (inputs_of g (get_or (body_of g p) k 0)) count from ins outs wf told b refl all))
    (resized count (length words) (sources_of g p from) (inputs_of g (get_or (body_of g p) k 0)) (λ i j. (i < count) × IsTrue (has (get_or words j 0) i)) m all size h)

pub leads_to_exits : (g : Grammar) (d : Assignment) (p n count : ℕ) (from : Option PosNo) (ins outs : List (List ℕ)) (row : List ℕ) (m : Matrix) → IsWellFormedBody g p → AreTold g d p from ins outs → ((o : ℕ) (i : Inner) → IsAt i o (production_at g p).exits → get_or row o 0 ≡ word_at outs i.position i.port) →
    n ≡ outputs_of g (head_of g p) → n ≤ length row → count ≡ sources_of g p from → IsMatrixOf count (length (take n row)) (λ i j. (i < count) × IsTrue (has (get_or (take n row) j 0) i)) m → LeadsToExits g d p from m
leads_to_exits g d p n count from ins outs row m wf told words size room all h =
    let t = length-take n row in
    let l : length (take n row) ≡ n = omega arith in
    same_pairs (sources_of g p from) (outputs_of g (head_of g p)) (λ i j. (i < count) × IsTrue (has (get_or (take n row) j 0) i)) (λ i o. ToExit g d p (source from i) o) m
    (exits_mean g d p n count from ins outs row wf told words (size ∙ sym wf.one_exit_each) all)
    (resized count (length (take n row)) (sources_of g p from) (outputs_of g (head_of g p)) (λ i j. (i < count) × IsTrue (has (get_or (take n row) j 0) i)) m all (l ∙ size) h)

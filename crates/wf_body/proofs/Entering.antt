-- Words to which entries lead, and words of sources.
use Rattle.std.proofs.Common.{◌≡◌, ◌↔◌, ℕ, zero, suc, ◌+◌, ◌<◌, ◌≤◌, IsTrue, List, [], ◌∷◌, map, length, get_or, replicate, Option, Some, None, refl, sym, ap, ◌∙◌, subst, inl, inr, ⊎_elim, arith}
use Rattle.std.proofs.lemmas.List.{length-map}
use Rattle.std.proofs.lemmas.Bool.{cases_eq}
use Rattle.wf_model.specs.declared.body.Inner.{Inner as InnerHeld}
use Rattle.wf_model.specs.declared.numbers.PosNo.{PosNo}
use Rattle.wf_model.specs.Lists.{IsAt}
use Rattle.wf_model.specs.Grammar.{Grammar, Inner, production_at, inputs_of, head_of, module_at}
use Rattle.wf_model.specs.Links.{Port, output}
use Rattle.wf_model.specs.Meaning.{inner_of}
use Rattle.wf_model.specs.WellFormed.{IsWellFormed}
use Rattle.wf_model.proofs.Lists.{at_below, at_in, at_is, is_at}
use Rattle.bool_mat.specs.Matrix.{has}
use Rattle.bool_mat.proofs.Rows.{has_none}
use Rattle.wf_body.specs.Body.{at_port}
use Rattle.wf_body.specs.Words.{Enters, Gains, source}
use Rattle.wf_body.proofs.Feeding.{few_at, no_bits}

-- bit x of word j tells that entry x, among the first n, leads to port j of position k
abbrev pub EnteredBelow : ℕ → ℕ → List Inner → List ℕ → Type 0
EnteredBelow k n es words = (j x : ℕ) → IsTrue (has (get_or words j 0) x) ↔ ((x < n) × IsAt (at_port k j) x es)

pub entered_none : (k : ℕ) (es : List Inner) → EnteredBelow k 0 es (replicate {A = ℕ} 64 0)
entered_none k es j x = ((λ t. absurd (no_bits 64 j x t)), λ r. absurd (let l = r.0 in omega arith))

-- one element stands at a place
one_at : (x y : Inner) (n : ℕ) (es : List Inner) → IsAt x n es → IsAt y n es → x ≡ y
one_at x y n es h i = sym (at_is x n es x h) ∙ at_is y n es x i

pub same_inner : (i : Inner) (k j : ℕ) → i.position ≡ k → i.port ≡ j → i ≡ at_port k j
same_inner i k j e f = ap (λ z. at_port z i.port) e ∙ ap (λ z. at_port k z) f

pub entered_in : (k n : ℕ) (es : List Inner) (i : Inner) (old new : List ℕ) (word : ℕ) → EnteredBelow k n es old → IsAt i n es → i.position ≡ k → Gains old i.port word new → ((x : ℕ) → IsTrue (has word x) ↔ (x ≡ n)) → EnteredBelow k (n + 1) es new
entered_in k n es i old new word h a e g w j x = (
  (λ t. ⊎_elim
      (λ b. let r = (h j x).0 b in let l = r.0 in let l' : x < n + 1 = omega arith in (l', r.1))
      (λ b. let q : x ≡ n = (w x).0 b.1 in let l' : x < n + 1 = omega arith in (l', subst (λ z. IsAt (at_port k j) z es) (sym q) (subst (λ z. IsAt z n es) (same_inner i k j e (sym b.0)) a)))
      ((g j x).0 t)),
  λ r. (g j x).1 (⊎_elim
      (λ q. inr (sym (ap (λ (z : Inner). z.port) (one_at i (at_port k j) n es a (subst (λ z. IsAt (at_port k j) z es) q r.1))), (w x).1 q))
      (λ q. let l = r.0 in let l' : x < n = omega arith in inl ((h j x).1 (l', r.1)))
      (cases_eq x n)),
)

pub entered_out : (k n : ℕ) (es : List Inner) (i : Inner) (words : List ℕ) → EnteredBelow k n es words → IsAt i n es → (i.position ≡ k → ⊥) → EnteredBelow k (n + 1) es words
entered_out k n es i words h a e j x = (
  (λ t. let r = (h j x).0 t in let l = r.0 in let l' : x < n + 1 = omega arith in (l', r.1)),
  λ r. ⊎_elim
      (λ q. absurd (e (ap (λ (z : Inner). z.position) (one_at i (at_port k j) n es a (subst (λ z. IsAt (at_port k j) z es) q r.1)))))
      (λ q. let l = r.0 in let l' : x < n = omega arith in (h j x).1 (l', r.1))
      (cases_eq x n),
)

pub entered_whole : (k n : ℕ) (es : List Inner) (words : List ℕ) → EnteredBelow k n es words → length es ≤ n → (j x : ℕ) → IsTrue (has (get_or words j 0) x) ↔ IsAt (at_port k j) x es
entered_whole k n es words h past j x = (
  (λ t. ((h j x).0 t).1),
  λ a. let l = at_below (at_port k j) x es a in let l' : x < n = omega arith in (h j x).1 (l', a),
)

-- held entries
pub held_at : (xs : List InnerHeld) (n : ℕ) (d : InnerHeld) (es : List Inner) → map inner_of xs ≡ es → n < length xs → IsAt (inner_of (get_or xs n d)) n es
held_at xs n d es same h = subst (IsAt (inner_of (get_or xs n d)) n) same (mapped xs n h)
  where
    mapped : (ys : List InnerHeld) (m : ℕ) → m < length ys → IsAt (inner_of (get_or ys m d)) m (map inner_of ys)
    mapped [] m l = absurd (omega arith)
    mapped (y ∷ ys) zero l = refl
    mapped (y ∷ ys) (suc m) l = let l' : m < length ys = omega arith in mapped ys m l'

pub few_entries : (g : Grammar) (p : ℕ) (xs : List InnerHeld) → IsWellFormed g → p < length g.productions → map inner_of xs ≡ (production_at g p).entries → (length xs ≡ inputs_of g (head_of g p)) × (length xs ≤ 64)
few_entries g p xs wf h same =
    let e : length xs ≡ inputs_of g (head_of g p) = sym (length-map xs inner_of) ∙ (ap length same ∙ (wf.bodies p h).one_entry_each) in
    let w = wf.modules (module_at g (head_of g p)) (at_in (module_at g (head_of g p)) (head_of g p) g.modules (is_at (head_of g p) g.modules _ (wf.heads p h))) in
    let few = w.few_inputs in
    (e, omega arith)

pub entry_small : (g : Grammar) (p n : ℕ) (i : Inner) → IsWellFormed g → p < length g.productions → IsAt i n (production_at g p).entries → i.port < 64
entry_small g p n i wf h a =
    let t = (wf.bodies p h).entries_to i (at_in i n (production_at g p).entries a) in
    let b = few_at g p t.0 i.position wf h t.1 in
    let tp : i.port < inputs_of g t.0 = t.2 in
    let ti : inputs_of g t.0 ≤ 64 = b.2 in
    omega arith

-- the words of sources at the entries
pub begun_head : (g : Grammar) (p k : ℕ) (from : Option PosNo) (words : List ℕ) → from ≡ None → ((j x : ℕ) → IsTrue (has (get_or words j 0) x) ↔ IsAt (at_port k j) x (production_at g p).entries) → (j x : ℕ) → IsTrue (has (get_or words j 0) x) ↔ Enters g p from k j x
begun_head g p k from words e h j x =
    subst (λ f. IsTrue (has (get_or words j 0) x) ↔ Enters g p f k j x) (sym e) (
      (λ t. (x, (h j x).0 t, refl)),
      λ r. (h j x).1 (subst (λ z. IsAt (at_port k j) z (production_at g p).entries) (sym (ap (λ (z : Port (Option ℕ)). z.number) r.2)) r.1),
    )

pub begun_position : (g : Grammar) (p k : ℕ) (from : Option PosNo) (s : PosNo) → from ≡ Some s → (j x : ℕ) → IsTrue (has (get_or (replicate {A = ℕ} 64 0) j 0) x) ↔ Enters g p from k j x
begun_position g p k from s e j x =
    subst (λ f. IsTrue (has (get_or (replicate {A = ℕ} 64 0) j 0) x) ↔ Enters g p f k j x) (sym e) (
      (λ t. absurd (no_bits 64 j x t)),
      λ r. absurd (let q : Some s.0 ≡ None = ap (λ (z : Port (Option ℕ)). z.owner) r.2 in cc),
    )

-- no source is an output of this position
pub other_itself : (from : Option PosNo) (s : PosNo) (k o : ℕ) → from ≡ Some s → (s.0 ≡ k → ⊥) → (x : ℕ) → IsTrue (has 0 x) ↔ (source from x ≡ output (Some k) o)
other_itself from s k o e n x =
    subst (λ f. IsTrue (has 0 x) ↔ (source f x ≡ output (Some k) o)) (sym e) (
      (λ t. absurd (has_none x t)),
      λ h. absurd (let q : Some s.0 ≡ Some k = ap (λ (z : Port (Option ℕ)). z.owner) h in let r : s.0 ≡ k = cc in n r),
    )

pub head_itself : (from : Option PosNo) (k o : ℕ) → from ≡ None → (x : ℕ) → IsTrue (has 0 x) ↔ (source from x ≡ output (Some k) o)
head_itself from k o e x =
    subst (λ f. IsTrue (has 0 x) ↔ (source f x ≡ output (Some k) o)) (sym e) (
      (λ t. absurd (has_none x t)),
      λ h. absurd (let q : None ≡ Some k = ap (λ (z : Port (Option ℕ)). z.owner) h in cc),
    )

pub whole_below : (xs : List InnerHeld) (es : List Inner) (n : ℕ) → map inner_of xs ≡ es → length xs ≤ n → length es ≤ n
whole_below xs es n same h = let e = length-map xs inner_of in let f = ap length same in omega arith

-- The line grammar, worked: it is well-formed, its run is accepted and finished, and its links, items and dependencies are computed.
use Rattle.std.proofs.Common.{◌≡◌, ◌↔◌, IsTrue, ℕ, zero, suc, ◌<◌, ◌≤◌, ◌⊎◌, true, false, List, [], ◌∷◌, length, codes, get_or, ap, subst, refl, sym, ◌∙◌, inl, inr, ⊎_elim, arith, lit<, lit≤, ◌≢◌, count_by, true≢false, bytes_eq}
use Rattle.wf_model.proofs.Lists.{same_bytes, bytes_same, at_in, is_at}
use Rattle.wf_model.specs.Lists.{IsIn, IsAt, Walk, here, onward}
use Rattle.wf_model.specs.Grammar.{Position, Inner, Edge, inputs_of, outputs_of, head_of, body_of, IsProductionOf, IsAtomic}
use Rattle.wf_model.specs.WellFormed.{IsWellFormed, IsWellFormedBody, IsWellFormedModule, IsShortName, IsInnerInput, IsInnerOutput, IsFollowedBy, same_inner}
use Rattle.wf_model.specs.declared.event.Event.TheVariants.{Start, Expand}
use Rattle.wf_model.specs.Run.{IsName, IsAccepted}
use Rattle.wf_model.specs.Links.{links}
use Rattle.wf_model.specs.View.{expands, shows}
use Rattle.wf_model.specs.Safe.{IsInduced, BodyJoins}
use Rattle.wf_model.specs.Proper.{IsProper, Derives}
use Rattle.wf_model.specs.Linear.{IsLinear, Continues}
use Rattle.wf_model.specs.Reach.{Step, target_of}
use Rattle.wf_laws.proofs.Safe.{one_test_suffices}
use Rattle.wf_laws.specs.Examples.{port, edge, into, out}
use Rattle.wf_laws.specs.LineGrammar.{line, all_pairs, whole_view, events, LineGrammarIsWorked}
use Rattle.wf_laws.proofs.Accepted.{none_taken, taken, finished}
use Rattle.wf_laws.proofs.Reached.{found, not_found}

other : {a b : List ℕ} → a ≡ b → bytes_eq a b ≡ false → ⊥
other {a} {b} e h = true≢false (sym (bytes_same a b e) ∙ h)

letters : (l : List ℕ) → ((b : ℕ) → IsIn b l → (97 ≤ b) × (b ≤ 122) ⊎ ((65 ≤ b) × (b ≤ 90))) → 0 < length l → IsName l
letters l h n = (n, λ b i. ⊎_elim (λ a. inl a) (λ a. inr (inl a)) (h b i))

short : (b : ℕ) (l : List ℕ) → l ≡ b ∷ [] → ((97 ≤ b) × (b ≤ 122) ⊎ ((65 ≤ b) × (b ≤ 90))) → IsShortName l
short b l e h =
    subst IsShortName (sym e) (letters (b ∷ []) (λ c i. ⊎_elim (λ d. subst (λ z. (97 ≤ z) × (z ≤ 122) ⊎ ((65 ≤ z) × (z ≤ 90))) (sym d) h) (λ d. absurd d) i) (lit< tt), lit≤ tt)

small_letter : (b : ℕ) → 97 ≤ b → b ≤ 122 → IsShortName (b ∷ [])
small_letter b x y = short b (b ∷ []) refl (inl (x, y))

capital : (b : ℕ) → 65 ≤ b → b ≤ 90 → IsShortName (b ∷ [])
capital b x y = short b (b ∷ []) refl (inr (x, y))

one_in_one_out : (n a b : ℕ) → IsShortName (n ∷ []) → IsShortName (a ∷ []) → IsShortName (b ∷ []) → a ≢ b → IsWellFormedModule (record { name = n ∷ []; inputs = (a ∷ []) ∷ []; outputs = (b ∷ []) ∷ [] })
one_in_one_out n a b hn ha hb d = record {
  name = hn;
  ports = λ x i. ⊎_elim (λ e. subst IsShortName (sym e) ha) (λ j. ⊎_elim (λ e. subst IsShortName (sym e) hb) (λ e. absurd e) j) i;
  ports_differ = ((λ i. ⊎_elim (λ e. d (ap (λ l. get_or l 0 0) e)) (λ e. e) i), ((λ i. i), tt));
  few_inputs = lit≤ tt;
  few_outputs = lit≤ tt;
}

only_edge : (e : Edge) → IsIn e (edge 0 0 1 0 ∷ []) → e ≡ edge 0 0 1 0
only_edge e h = ⊎_elim (λ a. a) (λ a. absurd a) h

only_production : (p : ℕ) → p < 1 → p ≡ 0
only_production p h = omega arith

line_body : IsWellFormedBody line 0
line_body = record {
  some_position = lit< tt;
  modules = λ m i. ⊎_elim (λ e. subst (λ z. z < 3) (sym e) (lit< tt)) (λ j. ⊎_elim (λ e. subst (λ z. z < 3) (sym e) (lit< tt)) (λ e. absurd e) j) i;
  names = λ q i. ⊎_elim (λ e. subst (λ (z : Position). IsShortName z.name) (sym e) (small_letter 117 (lit≤ tt) (lit≤ tt))) (λ j. ⊎_elim (λ e. subst (λ (z : Position). IsShortName z.name) (sym e) (small_letter 118 (lit≤ tt) (lit≤ tt))) (λ e. absurd e) j) i;
  names_differ = ((λ i. ⊎_elim (λ e. other e refl) (λ e. e) i), ((λ i. i), tt));
  edges_from = λ e h. subst (λ (z : Edge). IsInnerOutput line 0 z.from) (sym (only_edge e h)) (1, refl, lit< tt);
  edges_to = λ e h. subst (λ (z : Edge). IsInnerInput line 0 z.to) (sym (only_edge e h)) (2, refl, lit< tt);
  entries_to = λ i h. ⊎_elim (λ e. subst (λ (z : Inner). IsInnerInput line 0 z) (sym e) (1, refl, lit< tt)) (λ e. absurd e) h;
  exits_from = λ i h. ⊎_elim (λ e. subst (λ (z : Inner). IsInnerOutput line 0 z) (sym e) (2, refl, lit< tt)) (λ e. absurd e) h;
  one_entry_each = refl;
  one_exit_each = refl;
  fed_once = λ i h. fed i.position i.port h.0 h.1 h.2;
  used_once = λ i h. used i.position i.port h.0 h.1 h.2;
  acyclic = λ a b s w. let ha : a ≡ 0 = sym s.2 ∙ ap (λ (z : Edge). z.from.position) (only_edge s.0 s.1) in
      let hb : b ≡ 1 = sym s.3 ∙ ap (λ (z : Edge). z.to.position) (only_edge s.0 s.1) in last w hb ha;
}
  where
    fed : (k i m : ℕ) → IsAt m k (1 ∷ 2 ∷ []) → i < inputs_of line m → count_by (same_inner (port k i)) (port 1 0 ∷ port 0 0 ∷ []) ≡ 1
    fed zero i m h l = let e : i ≡ 0 = subst (λ z. i < inputs_of line z → i ≡ 0) (sym h) (λ q. omega arith) l in subst (λ z. count_by (same_inner (port 0 z)) (port 1 0 ∷ port 0 0 ∷ []) ≡ 1) (sym e) refl
    fed (suc zero) i m h l = let e : i ≡ 0 = subst (λ z. i < inputs_of line z → i ≡ 0) (sym h) (λ q. omega arith) l in subst (λ z. count_by (same_inner (port 1 z)) (port 1 0 ∷ port 0 0 ∷ []) ≡ 1) (sym e) refl
    fed (suc (suc k)) i m h l = absurd h

    used : (k i m : ℕ) → IsAt m k (1 ∷ 2 ∷ []) → i < outputs_of line m → count_by (same_inner (port k i)) (port 0 0 ∷ port 1 0 ∷ []) ≡ 1
    used zero i m h l = let e : i ≡ 0 = subst (λ z. i < outputs_of line z → i ≡ 0) (sym h) (λ q. omega arith) l in subst (λ z. count_by (same_inner (port 0 z)) (port 0 0 ∷ port 1 0 ∷ []) ≡ 1) (sym e) refl
    used (suc zero) i m h l = let e : i ≡ 0 = subst (λ z. i < outputs_of line z → i ≡ 0) (sym h) (λ q. omega arith) l in subst (λ z. count_by (same_inner (port 1 z)) (port 0 0 ∷ port 1 0 ∷ []) ≡ 1) (sym e) refl
    used (suc (suc k)) i m h l = absurd h

    last : {a b : ℕ} → Walk (IsFollowedBy line 0) a b → a ≡ 1 → b ≡ 0 → ⊥
    last {a = a} here ea eb = let x : a ≡ 1 = ea in let y : a ≡ 0 = eb in absurd (omega arith)
    last (onward {x = x} s w) ea eb = let e : x ≡ 0 = sym s.2 ∙ ap (λ (z : Edge). z.from.position) (only_edge s.0 s.1) in absurd (omega arith)

line_well_formed : IsWellFormed line
line_well_formed = record {
  start = lit< tt;
  modules = λ m i. ⊎_elim (λ e. subst IsWellFormedModule (sym e) (one_in_one_out 83 97 98 (capital 83 (lit≤ tt) (lit≤ tt)) (small_letter 97 (lit≤ tt) (lit≤ tt)) (small_letter 98 (lit≤ tt) (lit≤ tt)) (omega arith)))
      (λ j. ⊎_elim (λ e. subst IsWellFormedModule (sym e) (one_in_one_out 80 120 121 (capital 80 (lit≤ tt) (lit≤ tt)) (small_letter 120 (lit≤ tt) (lit≤ tt)) (small_letter 121 (lit≤ tt) (lit≤ tt)) (omega arith)))
      (λ j. ⊎_elim (λ e. subst IsWellFormedModule (sym e) (one_in_one_out 81 120 121 (capital 81 (lit≤ tt) (lit≤ tt)) (small_letter 120 (lit≤ tt) (lit≤ tt)) (small_letter 121 (lit≤ tt) (lit≤ tt)) (omega arith))) (λ e. absurd e) j) j) i;
  names_differ = ((λ i. ⊎_elim (λ e. other e refl) (λ j. ⊎_elim (λ e. other e refl) (λ e. e) j) i), ((λ i. ⊎_elim (λ e. other e refl) (λ e. e) i), ((λ i. i), tt)));
  few_modules = lit≤ tt;
  few_productions = lit≤ tt;
  few_positions = λ p h. subst (λ z. length (body_of line z) ≤ 64) (sym (only_production p h)) (lit≤ tt);
  small = lit≤ tt;
  heads = λ p h. subst (λ z. head_of line z < 3) (sym (only_production p h)) (lit< tt);
  bodies = λ p h. subst (IsWellFormedBody line) (sym (only_production p h)) line_body;
  given_atomic = λ d h. absurd h;
  given_pairs = λ d e h. absurd h;
}

-- each module joins its input to its output, and S does so by its body
pub line_induced : IsInduced line whole_view all_pairs
line_induced = record {
  shown = λ m s ex i o hi ho. shown m i o ex hi ho;
  induced = λ p hp s ex i o hi ho. subst (λ z. i < inputs_of line (head_of line z) → o < outputs_of line (head_of line z) → IsTrue (all_pairs (head_of line z) i o) ↔ BodyJoins line all_pairs z i o) (sym (only_production p hp)) (λ hi ho. joins i o hi ho) hi ho;
}
  where
    shown : (m i o : ℕ) → expands whole_view m ≡ false → i < inputs_of line m → o < outputs_of line m → true ≡ shows whole_view m i o
    shown zero i o ex hi ho = absurd (true≢false ex)
    shown (suc zero) i o ex hi ho = let a : i ≡ 0 = omega arith in let b : o ≡ 0 = omega arith in subst (λ z. true ≡ shows whole_view 1 z o) (sym a) (subst (λ z. true ≡ shows whole_view 1 0 z) (sym b) refl)
    shown (suc (suc zero)) i o ex hi ho = let a : i ≡ 0 = omega arith in let b : o ≡ 0 = omega arith in subst (λ z. true ≡ shows whole_view 2 z o) (sym a) (subst (λ z. true ≡ shows whole_view 2 0 z) (sym b) refl)
    shown (suc (suc (suc m))) i o ex hi ho = absurd (omega arith)

    joins : (i o : ℕ) → i < 1 → o < 1 → IsTrue true ↔ BodyJoins line all_pairs 0 i o
    joins i o hi ho =
        let a : i ≡ 0 = omega arith in let b : o ≡ 0 = omega arith in (
          (λ t. subst (λ z. BodyJoins line all_pairs 0 z o) (sym a) (subst (λ z. BodyJoins line all_pairs 0 0 z) (sym b)
              (onward (inr (inl refl)) (onward (inr (inr (inr (inl refl)))) (onward (inl refl) (onward (inr (inr (inr (inr (inl refl))))) (onward (inr (inr (inl refl))) here))))))),
          (λ w. refl),
        )

-- P and Q are atomic
head_is_zero : (p m : ℕ) → IsProductionOf line p m → m ≡ 0
head_is_zero p m h = subst (λ z. head_of line z ≡ m → m ≡ 0) (sym (only_production p h.0)) (λ e. sym e) h.1

atomic : (m : ℕ) → 0 < m → IsAtomic line m
atomic m h p l e = let z : m ≡ 0 = head_is_zero p m (l, e) in absurd (omega arith)

made_by_s : (k m : ℕ) → (p : ℕ) → IsProductionOf line p m → IsIn k (body_of line p) → 0 < k
made_by_s k m p h i = positive (subst (λ z. IsIn k (body_of line z)) (only_production p h.0) i)
  where
    positive : IsIn k (1 ∷ 2 ∷ []) → 0 < k
    positive (inl e) = omega arith
    positive (inr (inl e)) = omega arith
    positive (inr (inr e)) = absurd e

proper : IsProper line
proper = record {
  reached = λ m c. subst (Derives line 0) (sym (head_is_zero c.0 m c.1)) here;
  ranked = λ m c. (1, inr (c.0, c.1, λ k i. atomic k (made_by_s k m c.0 c.1 i)));
  no_unit_loop = λ a b h w. let e : length (body_of line 0) ≡ 1 = subst (λ z. length (body_of line z) ≡ 1) (only_production h.0 h.1.0) h.2 in absurd (omega arith);
}

-- no step leads back to S
no_step : (m : ℕ) (s : Step) → Continues line m s → ⊥
no_step m s c =
    let k = target_of line s in
    let i : IsIn k (body_of line s.production) = at_in k s.position (body_of line s.production) (is_at s.position (body_of line s.production) 0 c.0.position) in
    let up : 0 < k = made_by_s k m s.production (c.0.in_range, c.0.head) i in
    let zero : m ≡ 0 = head_is_zero s.production m (c.0.in_range, c.0.head) in
    stuck k m up zero c.1
  where
    stuck : (k m : ℕ) → 0 < k → m ≡ 0 → Derives line k m → ⊥
    stuck k m up z here = absurd (omega arith)
    stuck k m up z (onward st w) = let e : k ≡ 0 = head_is_zero st.0 k st.1 in absurd (omega arith)

linear : IsLinear line
linear m s t a b = absurd (no_step m s a)

accepted : IsAccepted line 3 events
accepted = taken line 3 (Start (codes "r") ∷ []) (Expand (codes "r") 0 (codes "i1" ∷ codes "i2" ∷ [])) (taken line 3 [] (Start (codes "r")) (none_taken line 3) refl) refl

pub line_grammar_is_worked : LineGrammarIsWorked
line_grammar_is_worked = record {
  well_formed = line_well_formed;
  proper = proper;
  linear = linear;
  default = refl;
  full = one_test_suffices line whole_view all_pairs line_well_formed line_induced;
  accepted = accepted;
  expansion = record { run = accepted.0; started = λ e. absurd (cc); finished = finished line whole_view 0 events refl };
  grafted = refl;
  items_are = refl;
  links_are = refl;
  pending_has_none = refl;
  shut_links = refl;
  i1_y_of_r_a = found bytes_eq same_bytes (links line whole_view 0 events) (into "r" 0) 2 (out "i1" 0) refl;
  r_b_of_i1_y = found bytes_eq same_bytes (links line whole_view 0 events) (into "i2" 0) 2 (out "r" 0) refl;
  r_b_of_r_a = found bytes_eq same_bytes (links line whole_view 0 events) (into "r" 0) 3 (out "r" 0) refl;
  r_a_of_r_b = λ h. h;
  not_of_itself = not_found bytes_eq same_bytes (links line whole_view 0 events) (into "i2" 0) 2 (out "i1" 0) refl refl refl;
}

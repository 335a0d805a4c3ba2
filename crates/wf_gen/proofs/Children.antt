-- The pending instances among children, and how often a number stands in a list of pending instances.
use Rattle.std.proofs.Common.{◌≡◌, ◌≢◌, ℕ, zero, suc, ◌+◌, ◌<◌, ◌≤◌, Bool, true, false, cond, ◌==◌, List, [], ◌∷◌, ◌++◌, map, length, get_or, take, swap_remove, sum_by, refl, sym, ap, ◌∙◌, subst, inl, inr, ⊎_elim, arith, append_assoc}
use Rattle.std.proofs.lemmas.Bool.{eqb-true, eq-eqb}
use Rattle.std.proofs.lemmas.List.{take_more, length-take-le, length-map}
use Rattle.std.proofs.lemmas.List.Sums.{sum_by-cons, sum_by-append, sum_by-swap_remove}
use Rattle.wf_model.specs.Lists.{IsIn, IsAt}
use Rattle.wf_model.specs.Grammar.{Grammar, Position, Production, production_at, body_of}
use Rattle.wf_model.specs.Composite.{is_composite}
use Rattle.wf_model.proofs.Lists.{in_append_left, in_append_right, in_append_cases}
use Rattle.wf_model.specs.declared.body.Position.{Position as PositionHeld}
use Rattle.wf_model.specs.Meaning.{position_of}
use Rattle.wf_gen.specs.declared.pending.Pending.{Pending as PendingHeld}
use Rattle.wf_gen.specs.Turns.{Pending, no_pending, pending_from}
use Rattle.wf_gen.specs.Held.{pending_of, all_pending}
use Rattle.wf_gen.proofs.Lists.{swap-mapped}

-- the child of a number, as a list, if its module is composite
abbrev child : Grammar → ℕ → ℕ → List Pending
child g k m = cond (is_composite g m) (record { number = k; module_no = m } ∷ []) []

pending_from-append : (g : Grammar) (k : ℕ) (ms ns : List ℕ) → pending_from g k (ms ++ ns) ≡ pending_from g k ms ++ pending_from g (k + length ms) ns
pending_from-append g k [] ns = let e : k ≡ k + 0 = omega arith in ap (λ n. pending_from g n ns) e
pending_from-append g k (m ∷ ms) ns =
    let e : suc k + length ms ≡ k + suc (length ms) = omega arith in
    ap (λ l. child g k m ++ l) (pending_from-append g (suc k) ms ns ∙ ap (λ n. pending_from g (suc k) ms ++ pending_from g n ns) e)
    ∙ sym (append_assoc (child g k m) (pending_from g (suc k) ms) (pending_from g (k + suc (length ms)) ns))

-- as many children as there are positions
pub counted : (g : Grammar) (p n : ℕ) (qs : List PositionHeld) (r : Production) → n ≡ length qs → map position_of qs ≡ r.positions → r ≡ production_at g p → n ≡ length (body_of g p)
counted g p n qs r count read same =
    count ∙ (sym (length-map qs position_of) ∙ (ap length read ∙ (ap (λ (r : Production). length r.positions) same ∙ sym (length-map (production_at g p).positions (λ (q : Position). q.module_no)))))

-- an instance is taken out, and children are appended
pub replaced : (g : Grammar) (first : ℕ) (body : List ℕ) (old kept left later : List PendingHeld) (place : ℕ) (d : PendingHeld) → place < length old → kept ≡ old → left ≡ swap_remove kept place d →
    all_pending later ≡ all_pending left ++ pending_from g first body → all_pending later ≡ swap_remove (all_pending old) place no_pending ++ pending_from g first body
replaced g first body old kept left later place d below e h q =
    q ∙ ap (λ l. l ++ pending_from g first body) (ap all_pending (h ∙ ap (λ l. swap_remove l place d) e) ∙ swap-mapped pending_of old place d no_pending below)

-- one child more
pub child_more : (g : Grammar) (first k : ℕ) (body : List ℕ) (old now later : List Pending) (m : ℕ) → k < length body → m ≡ get_or body k 0 →
    now ≡ old ++ pending_from g first (take k body) → later ≡ now ++ pending_from g (first + k) (m ∷ []) → later ≡ old ++ pending_from g first (take (k + 1) body)
child_more g first k body old now later m h e a b =
    let len : first + length (take k body) ≡ first + k = ap (λ n. first + n) (length-take-le k body (omega arith)) in
    let more : take k body ++ m ∷ [] ≡ take (k + 1) body = ap (λ x. take k body ++ x ∷ []) e ∙ sym (take_more body k 0 h) in
    let parts : pending_from g first (take k body) ++ pending_from g (first + k) (m ∷ []) ≡ pending_from g first (take (k + 1) body) =
    ap (λ n. pending_from g first (take k body) ++ pending_from g n (m ∷ [])) (sym len) ∙ (sym (pending_from-append g first (take k body) (m ∷ [])) ∙ ap (pending_from g first) more) in
    b ∙ (ap (λ l. l ++ pending_from g (first + k) (m ∷ [])) a ∙ (append_assoc old (pending_from g first (take k body)) (pending_from g (first + k) (m ∷ [])) ∙ ap (λ l. old ++ l) parts))

-- a pending child stands at a position of the body, and is of a composite module
pub child_from : (g : Grammar) (k : ℕ) (ms : List ℕ) (p : Pending) → IsIn p (pending_from g k ms) → (j : ℕ) × IsAt p.module_no j ms × (p.number ≡ k + j) × (is_composite g p.module_no ≡ true)
child_from g k [] p h = absurd h
child_from g k (m ∷ ms) p h =
    ⊎_elim (λ a. first (is_composite g m) refl a)
    (λ b. let r = child_from g (suc k) ms p b in let e : suc k + r.0 ≡ k + suc r.0 = omega arith in (suc r.0, r.1, r.2 ∙ e, r.3))
    (in_append_cases p (child g k m) (pending_from g (suc k) ms) h)
  where
    first : (t : Bool) → is_composite g m ≡ t → IsIn {A = Pending} p (cond t (record { number = k; module_no = m } ∷ []) []) → (j : ℕ) × IsAt p.module_no j (m ∷ ms) × (p.number ≡ k + j) × (is_composite g p.module_no ≡ true)
    first false e a = absurd a
    first true e (inl q) =
        let z : k ≡ k + 0 = omega arith in
        (0, ap (λ (x : Pending). x.module_no) q, ap (λ (x : Pending). x.number) q ∙ z, ap (λ (x : Pending). is_composite g x.module_no) q ∙ e)
    first true e (inr a) = absurd a

-- and a child of a composite module is pending
pub child_in : (g : Grammar) (k : ℕ) (ms : List ℕ) (m j : ℕ) → IsAt m j ms → is_composite g m ≡ true → IsIn (record { number = k + j; module_no = m }) (pending_from g k ms)
child_in g k [] m j h e = absurd h
child_in g k (n ∷ ms) m zero h e =
    let z : k + 0 ≡ k = omega arith in
    let t : is_composite g n ≡ true = ap (is_composite g) (sym h) ∙ e in
    in_append_left (record { number = k + 0; module_no = m }) (child g k n) (pending_from g (suc k) ms)
    (subst (λ b. IsIn {A = Pending} (record { number = k + 0; module_no = m }) (cond b (record { number = k; module_no = n } ∷ []) [])) (sym t) (inl (λ i. record { number = z i; module_no = h i })))
child_in g k (n ∷ ms) m (suc j) h e =
    let z : suc k + j ≡ k + suc j = omega arith in
    in_append_right (record { number = k + suc j; module_no = m }) (child g k n) (pending_from g (suc k) ms)
    (subst (λ q. IsIn {A = Pending} (record { number = q; module_no = m }) (pending_from g (suc k) ms)) z (child_in g (suc k) ms m j h e))

-- 1 where the instance has this number, and 0 elsewhere
abbrev pub has_number : ℕ → Pending → ℕ
has_number n p = cond {A = ℕ} (p.number == n) 1 0

-- how often a number stands in a list
abbrev pub times : ℕ → List Pending → ℕ
times n ps = sum_by (has_number n) ps

own_number : (p : Pending) → has_number p.number p ≡ 1
own_number p = ap (λ b. cond {A = ℕ} b 1 0) (eq-eqb p.number p.number refl)

pub times_in : (p : Pending) (ps : List Pending) → IsIn p ps → 1 ≤ times p.number ps
times_in p [] h = absurd h
times_in p (q ∷ ps) (inl e) =
    let s = sum_by-cons (has_number p.number) q ps in
    let o : has_number p.number q ≡ 1 = ap (has_number p.number) (sym e) ∙ own_number p in
    omega (arith, s, o)
times_in p (q ∷ ps) (inr h) = let s = sum_by-cons (has_number p.number) q ps in let r = times_in p ps h in omega (arith, s, r)

-- a number that all are below stands nowhere
pub times_past : (n : ℕ) (ps : List Pending) → ((p : Pending) → IsIn p ps → p.number < n) → times n ps ≡ 0
times_past n [] h = refl
times_past n (p ∷ ps) h =
    let s = sum_by-cons (has_number n) p ps in
    let r = times_past n ps (λ q i. h q (inr i)) in
    let l : p.number < n = h p (inl refl) in
    let o : has_number n p ≡ 0 = other (p.number == n) refl l in
    omega (arith, s, r, o)
  where
    other : (t : Bool) → p.number == n ≡ t → p.number < n → cond {A = ℕ} (p.number == n) 1 0 ≡ 0
    other true e l = let q = eqb-true p.number n e in absurd (omega arith)
    other false e l = ap (λ b. cond {A = ℕ} b 1 0) e

first_times : (t : Bool) (p : Pending) (n : ℕ) → times n (cond t (p ∷ []) []) ≤ has_number n p
first_times false p n = omega arith
first_times true p n = let s = sum_by-cons (has_number n) p [] in omega (arith, s)

-- among children each number stands at most once, and none below the first
pub record StandOnce (n k : ℕ) (ps : List Pending) : Type 0 where
  pub once : times n ps ≤ 1
  pub below : n < k → times n ps ≡ 0

pub children_once : (g : Grammar) (k : ℕ) (ms : List ℕ) (n : ℕ) → StandOnce n k (pending_from g k ms)
children_once g k [] n = record { once = omega arith; below = λ h. refl }
children_once g k (m ∷ ms) n = go (k == n) refl (children_once g (suc k) ms n)
  where
    one : Pending
    one = record { number = k; module_no = m }

    go : (t : Bool) → k == n ≡ t → StandOnce n (suc k) (pending_from g (suc k) ms) → StandOnce n k (pending_from g k (m ∷ ms))
    go true e r =
        let q = eqb-true k n e in
        let s = sum_by-append (has_number n) (child g k m) (pending_from g (suc k) ms) in
        let f = first_times (is_composite g m) one n in
        let o : has_number n one ≡ 1 = ap (λ b. cond {A = ℕ} b 1 0) e in
        let z = r.below (omega arith) in
        record { once = omega (arith, s, f, o, z); below = λ h. absurd (omega arith) }
    go false e r =
        let s = sum_by-append (has_number n) (child g k m) (pending_from g (suc k) ms) in
        let f = first_times (is_composite g m) one n in
        let o : has_number n one ≡ 0 = ap (λ b. cond {A = ℕ} b 1 0) e in
        record { once = (let z = r.once in omega (arith, s, f, o, z)); below = λ h. let z = r.below (omega arith) in omega (arith, s, f, o, z) }

-- of a list in which each number stands once, what is left has not the number of the one that was taken
pub taken_gone : (ps : List Pending) (k : ℕ) (d y : Pending) → k < length ps → times (get_or ps k d).number ps ≤ 1 → IsIn y (swap_remove ps k d) → y.number ≢ (get_or ps k d).number
taken_gone ps k d y h once i e =
    let n = (get_or ps k d).number in
    let s = sum_by-swap_remove (has_number (get_or ps k d).number) ps k d h in
    let o = own_number (get_or ps k d) in
    let r : 1 ≤ times (get_or ps k d).number (swap_remove ps k d) = subst (λ m. 1 ≤ times m (swap_remove ps k d)) e (times_in y (swap_remove ps k d) i) in
    absurd (omega (arith, s, o, r, once))

pub left_once : (n : ℕ) (ps : List Pending) (k : ℕ) (d : Pending) → k < length ps → times n (swap_remove ps k d) ≤ times n ps
left_once n ps k d h = let s = sum_by-swap_remove (has_number n) ps k d h in omega (arith, s)

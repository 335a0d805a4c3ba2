-- A search in a graph of numbered vertices.
use Rattle.std.proofs.Common.{◌≡◌, ℕ, zero, suc, drop, ◌+◌, ◌-◌, ◌<◌, ◌≤◌, Bool, true, false, not, cond, List, [], ◌∷◌, ◌++◌, set, replicate, length, get_or, Vec, refl, ap, sym, subst, ◌∙◌, arith, inl, inr, ⊎_elim, true≢false, append_assoc, append-nil, length-append}
use Rattle.std.specs.Prelude.{count_by}
use Rattle.std.specs.declared.alloc.Global.{Global}
use Rattle.std.proofs.lemmas.List.{get_or-set_same, get_or-set_other, length-set, get_or_append_left}
use Rattle.std.proofs.Math.Seq.{get_or-append_right, drop-cons}
use Rattle.std.proofs.lemmas.List.Sums.{sum_by-cons}
use Rattle.std.proofs.lemmas.Bool.{cases_eq, cases_lt}
use Rattle.wf_model.specs.Lists.{IsIn, Walk, here, onward}
use Rattle.wf_model.proofs.Lists.{in_append_cases, in_append_left, in_append_right, in_at, at_is, at_below, at_in, is_at}
use Rattle.wf_model.proofs.Walks.{walk-append, walk_one}
use Rattle.wf_model.proofs.Tests.{marked_below}
use Rattle.wf_graph.specs.Graph.{nexts, HasStep}
use Rattle.wf_graph.specs.Routes.{place_of}
use Rattle.wf_graph.specs.Search.{IsSearch, IsUnbegun, IsBegun, Met, MetAll, MetUpTo, MetInPart}
use Rattle.wf_graph.proofs.Routes.{place_there, place_kept, place_new}

count_cons : (m : Bool) (ms : List Bool) → count_by not (m ∷ ms) ≡ cond {A = ℕ} (not m) 1 0 + count_by not ms
count_cons m ms = sum_by-cons (λ x. cond {A = ℕ} (not x) 1 0) m ms

count_set : (ms : List Bool) (v : ℕ) → v < length ms → get_or ms v false ≡ false → count_by not ms ≡ suc (count_by not (set ms v true))
count_set [] v h e = absurd (omega arith)
count_set (m ∷ ms) zero h e =
    let f : count_by not (m ∷ ms) ≡ 1 + count_by not ms = count_cons m ms ∙ ap (λ b. cond {A = ℕ} (not b) 1 0 + count_by not ms) e in
    let n : count_by not (set (m ∷ ms) zero true) ≡ 0 + count_by not ms = count_cons true ms in
    omega arith
count_set (m ∷ ms) (suc v) h e =
    let r : v < length ms = omega arith in
    let q = count_set ms v r e in
    let f : count_by not (m ∷ ms) ≡ cond {A = ℕ} (not m) 1 0 + count_by not ms = count_cons m ms in
    let n : count_by not (set (m ∷ ms) (suc v) true) ≡ cond {A = ℕ} (not m) 1 0 + count_by not (set ms v true) = count_cons m (set ms v true) in
    omega arith

pub met_none : (m : List Bool) (q : List ℕ) → MetAll m q [] m q
met_none m q = record {
  count = refl;
  more = [];
  appended = sym (append-nil q);
  unmarked = λ v h. absurd h;
  new_marks = λ v e. inl e;
  old_marks = λ v e. e;
  marks_more = λ v h. absurd h;
  from_list = λ v h. absurd h;
  each = λ v h. absurd h;
  order = λ i j l h. absurd (omega arith);
  falls = omega arith;
}

pub met_old : (m : List Bool) (q : List ℕ) (v : ℕ) → get_or m v false ≡ true → MetAll m q (v ∷ []) m q
met_old m q v e = record {
  count = refl;
  more = [];
  appended = sym (append-nil q);
  unmarked = λ w h. absurd h;
  new_marks = λ w e. inl e;
  old_marks = λ w e. e;
  marks_more = λ w h. absurd h;
  from_list = λ w h. absurd h;
  each = λ w h. ⊎_elim (λ (d : w ≡ v). subst (λ z. get_or m z false ≡ true) (sym d) e) (λ z. absurd z) h;
  order = λ i j l h. absurd (omega arith);
  falls = omega arith;
}

pub met_new : (m : List Bool) (q : List ℕ) (v : ℕ) → v < length m → get_or m v false ≡ false → MetAll m q (v ∷ []) (set m v true) (q ++ v ∷ [])
met_new m q v h e =
    let same : get_or (set m v true) v false ≡ true = get_or-set_same m v true false h in
    record {
      count = length-set m v true;
      more = v ∷ [];
      appended = refl;
      unmarked = λ w r t. ⊎_elim (λ (d : w ≡ v). true≢false (sym t ∙ (ap (λ z. get_or m z false) d ∙ e))) (λ z. absurd z) r;
      new_marks = λ w r. ⊎_elim (λ (d : w ≡ v). inr (inl d)) (λ d. inl (sym (get_or-set_other m v w true false d) ∙ r)) (cases_eq w v);
      old_marks = λ w r. ⊎_elim (λ (d : w ≡ v). subst (λ z. get_or (set m v true) z false ≡ true) (sym d) same) (λ d. get_or-set_other m v w true false d ∙ r) (cases_eq w v);
      marks_more = λ w r. ⊎_elim (λ (d : w ≡ v). subst (λ z. get_or (set m v true) z false ≡ true) (sym d) same) (λ z. absurd z) r;
      from_list = λ w r. r;
      each = λ w r. ⊎_elim (λ (d : w ≡ v). subst (λ z. get_or (set m v true) z false ≡ true) (sym d) same) (λ z. absurd z) r;
      order = λ i j l k. absurd (omega arith);
      falls = let c = count_set m v h e in omega (arith, length-append q (v ∷ []));
    }

pub met_more : (m : List Bool) (q list : List ℕ) (m' : List Bool) (q' : List ℕ) (v : ℕ) (m'' : List Bool) (q'' : List ℕ) → MetAll m q list m' q' → Met m' q' v m'' q'' → MetAll m q (list ++ v ∷ []) m'' q''
met_more m q list m' q' v m'' q'' a b =
    let fa = a.falls in let fb = b.falls in
    record {
      count = b.count ∙ a.count;
      more = a.more ++ b.more;
      appended = b.appended ∙ (ap (λ l. l ++ b.more) a.appended ∙ append_assoc q a.more b.more);
      unmarked = λ w r t. ⊎_elim (λ x. a.unmarked w x t) (λ x. b.unmarked w x (a.old_marks w t)) (in_append_cases w a.more b.more r);
      new_marks = λ w r. ⊎_elim (λ s. ⊎_elim (λ x. inl x) (λ x. inr (in_append_left w a.more b.more x)) (a.new_marks w s)) (λ s. inr (in_append_right w a.more b.more s)) (b.new_marks w r);
      old_marks = λ w r. b.old_marks w (a.old_marks w r);
      marks_more = λ w r. ⊎_elim (λ s. b.old_marks w (a.marks_more w s)) (λ s. b.marks_more w s) (in_append_cases w a.more b.more r);
      from_list = λ w r. ⊎_elim (λ s. in_append_left w list (v ∷ []) (a.from_list w s)) (λ s. in_append_right w list (v ∷ []) (b.from_list w s)) (in_append_cases w a.more b.more r);
      each = λ w r. ⊎_elim (λ s. b.old_marks w (a.each w s)) (λ s. b.each w s) (in_append_cases w list (v ∷ []) r);
      order = λ i j l k. ⊎_elim (λ h. both i j l h) (λ h. late i j l h k) (cases_lt j (length a.more));
      falls = omega arith;
    }
  where
    early_place : (i : ℕ) → i < length a.more → place_of (get_or (a.more ++ b.more) i 0) (list ++ v ∷ []) ≡ place_of (get_or a.more i 0) list
    early_place i h =
        let x = get_or a.more i 0 in
        ap (λ z. place_of z (list ++ v ∷ [])) (get_or_append_left a.more b.more 0 i h) ∙ place_kept x list (v ∷ []) (a.from_list x (at_in x i a.more (is_at i a.more 0 h)))

    early_there : (i : ℕ) → i < length a.more → place_of (get_or a.more i 0) list < length list
    early_there i h = let x = get_or a.more i 0 in place_there x list (a.from_list x (at_in x i a.more (is_at i a.more 0 h)))

    both : (i j : ℕ) → i < j → j < length a.more → place_of (get_or (a.more ++ b.more) i 0) (list ++ v ∷ []) < place_of (get_or (a.more ++ b.more) j 0) (list ++ v ∷ [])
    both i j l h =
        let k : i < length a.more = omega arith in
        omega (arith, early_place i k, early_place j h, a.order i j l h)

    -- what was added last is the last of the list, and was not in it before
    late_is : (j : ℕ) → length a.more ≤ j → j < length (a.more ++ b.more) → IsIn (get_or (a.more ++ b.more) j 0) b.more
    late_is j h k =
        let n = j - length a.more in
        let there : n < length b.more = omega (arith, length-append a.more b.more) in
        let e : get_or (a.more ++ b.more) j 0 ≡ get_or b.more n 0 = get_or-append_right a.more b.more j 0 h in
        subst (λ z. IsIn z b.more) (sym e) (at_in (get_or b.more n 0) n b.more (is_at n b.more 0 there))

    late_v : (x : ℕ) → IsIn x b.more → x ≡ v
    late_v x i = ⊎_elim (λ e. e) (λ z. absurd z) (b.from_list x i)

    late_place : (j : ℕ) → length a.more ≤ j → j < length (a.more ++ b.more) → place_of (get_or (a.more ++ b.more) j 0) (list ++ v ∷ []) ≡ length list
    late_place j h k =
        let i = late_is j h k in
        let e = late_v (get_or (a.more ++ b.more) j 0) i in
        ap (λ z. place_of z (list ++ v ∷ [])) e ∙ place_new v list (λ there. b.unmarked v (subst (λ z. IsIn z b.more) e i) (a.each v there))

    late : (i j : ℕ) → i < j → length a.more ≤ j → j < length (a.more ++ b.more) → place_of (get_or (a.more ++ b.more) i 0) (list ++ v ∷ []) < place_of (get_or (a.more ++ b.more) j 0) (list ++ v ∷ [])
    late i j l h k = ⊎_elim
        (λ s. omega (arith, early_place i s, early_there i s, late_place j h k))
        (λ s.
        let there : i < length (a.more ++ b.more) = omega arith in
        let x = i - length a.more in
        let y = j - length a.more in
        let lt : x < y = omega arith in
        let in_more : y < length b.more = omega (arith, length-append a.more b.more) in
        let first = get_or-append_right a.more b.more i 0 s in
        let second = get_or-append_right a.more b.more j 0 h in
        let one : get_or b.more x 0 ≡ get_or b.more y 0 = sym first ∙ (late_v _ (late_is i s there) ∙ (sym (late_v _ (late_is j h k)) ∙ second)) in
        absurd (omega (arith, ap (λ z. place_of z (v ∷ [])) one, b.order x y lt in_more)))
        (cases_lt i (length a.more))

-- no vertex of a list was met yet
pub up_to_none : (m : List Bool) (q list : List ℕ) → MetUpTo list list m q m q
up_to_none m q list = record { begin = []; split = refl; met = met_none m q }

-- the next one was met too
pub up_to_more : (m : List Bool) (q list rest : List ℕ) (m' : List Bool) (q' : List ℕ) (v : ℕ) (rest' : List ℕ) (m'' : List Bool) (q'' : List ℕ) → MetUpTo list rest m q m' q' → rest ≡ v ∷ rest' → Met m' q' v m'' q'' → MetUpTo list rest' m q m'' q''
up_to_more m q list rest m' q' v rest' m'' q'' a e b = record {
  begin = a.begin ++ v ∷ [];
  split = a.split ∙ (ap (λ l. a.begin ++ l) e ∙ sym (append_assoc a.begin (v ∷ []) rest'));
  met = met_more m q a.begin m' q' v m'' q'' a.met b;
}

-- no more are left
pub up_to_all : (m : List Bool) (q list rest : List ℕ) (m' : List Bool) (q' : List ℕ) → MetUpTo list rest m q m' q' → rest ≡ [] → MetAll m q list m' q'
up_to_all m q list rest m' q' a e = subst (λ l. MetAll m q l m' q') (sym (a.split ∙ (ap (λ l. a.begin ++ l) e ∙ append-nil a.begin))) a.met

-- what is met next is one of the list
pub next_in : (list begin rest rest' : List ℕ) (v : ℕ) → list ≡ begin ++ rest → rest ≡ v ∷ rest' → IsIn v list
next_in list begin rest rest' v s e = subst (IsIn v) (sym (s ∙ ap (λ l. begin ++ l) e)) (in_append_right v begin (v ∷ rest') (inl refl))

-- the vertices that were met of a list are some of it
pub part_in : {list queue queue' : List ℕ} {marks marks' : List Bool} (part : MetInPart list marks queue marks' queue') (w : ℕ) → IsIn w part.1.begin → IsIn w list
part_in part w i = subst (IsIn w) (sym part.1.split) (in_append_left w part.1.begin part.0 i)

nothing_marked : (n v : ℕ) → get_or (replicate n false) v false ≡ false
nothing_marked zero v = refl
nothing_marked (suc n) zero = refl
nothing_marked (suc n) (suc v) = nothing_marked n v

-- where no mark is set, none is
pub none_marked : (n : ℕ) (m : List Bool) → m ≡ replicate n false → (v : ℕ) → get_or m v false ≡ true → ⊥
none_marked n m e v h = true≢false (sym h ∙ (ap (λ l. get_or l v false) e ∙ nothing_marked n v))

module _ (row : ℕ → List ℕ) (n : ℕ) where
  pub search_none : (m : List Bool) (q : List ℕ) (done : ℕ) → IsUnbegun n m q done → IsSearch row n m q done
  search_none m q done s = record {
    count = s.count;
    within = let d = s.not_done in omega arith;
    marked = λ v h. absurd (s.none v h);
    queued = λ v h. absurd (subst (IsIn v) s.empty h);
    reached = λ v h. absurd (subst (IsIn v) s.empty h);
    closed = λ k h. let d = s.not_done in absurd (omega arith);
  }

  pub search_one : (from : ℕ) (m : List Bool) (q : List ℕ) (done : ℕ) → IsBegun n from m q done → IsSearch row n m q done
  search_one from m q done s = record {
    count = s.count;
    within = let d = s.not_done in omega arith;
    marked = λ v h. subst (IsIn v) (sym s.queued) (inl (s.one v h));
    queued = λ v h. subst (λ z. get_or m z false ≡ true) (sym (alone v h)) s.marked;
    reached = λ v h. subst (λ l. Walk (HasStep row) (get_or l 0 0) v) (sym s.queued) (subst (Walk (HasStep row) from) (sym (alone v h)) here);
    closed = λ k h. let d = s.not_done in absurd (omega arith);
  }
    where
      alone : (v : ℕ) → IsIn v q → v ≡ from
      alone v h = ⊎_elim (λ e. e) (λ z. absurd z) (subst (IsIn v) s.queued h)

  module _ (m : List Bool) (q : List ℕ) (done : ℕ) (s : IsSearch row n m q done) where
    pub queue_below : (k : ℕ) → k < length q → get_or q k 0 < n
    queue_below k h = subst (λ z. get_or q k 0 < z) s.count (marked_below m (get_or q k 0) (s.queued (get_or q k 0) (at_in (get_or q k 0) k q (is_at k q 0 h))))

    module _ (m' : List Bool) (q' list : List ℕ) (met : MetAll m q list m' q') (led : (w : ℕ) → IsIn w list → IsIn w (row (get_or q done 0))) (some : done < length q) where
      kept : (v : ℕ) → IsIn v q → IsIn v q'
      kept v i = subst (IsIn v) (sym met.appended) (in_append_left v q met.more i)

      found : (v : ℕ) → get_or m' v false ≡ true → IsIn v q'
      found v r = ⊎_elim (λ x. kept v (s.marked v x)) (λ x. subst (IsIn v) (sym met.appended) (in_append_right v q met.more x)) (met.new_marks v r)

      old : (k : ℕ) → k < length q → get_or q' k 0 ≡ get_or q k 0
      old k l = ap (λ z. get_or z k 0) met.appended ∙ get_or_append_left q met.more 0 k l

      pub first_same : get_or q' 0 0 ≡ get_or q 0 0
      first_same = let l : 0 < length q = omega arith in old 0 l

      pub not_fewer : length q ≤ length q'
      not_fewer = let e = ap length met.appended ∙ length-append q met.more in omega arith

      walked : (v : ℕ) → IsIn v q → Walk (HasStep row) (get_or q' 0 0) v
      walked v i = subst (λ z. Walk (HasStep row) z v) (sym first_same) (s.reached v i)

      reached_too : (v : ℕ) → IsIn v q' → Walk (HasStep row) (get_or q' 0 0) v
      reached_too v i = ⊎_elim
          (λ x. walked v x)
          (λ x. walk-append (walked (get_or q done 0) (at_in (get_or q done 0) done q (is_at done q 0 some))) (walk_one (led v (met.from_list v x))))
          (in_append_cases v q met.more (subst (IsIn v) met.appended i))

      closed_still : (k : ℕ) → k < done → (w : ℕ) → IsIn w (row (get_or q' k 0)) → IsIn w q'
      closed_still k h w r = let l : k < length q = omega arith in kept w (s.closed k h w (subst (λ z. IsIn w (row z)) (old k l) r))

      queued_too : (v : ℕ) → IsIn v q' → get_or m' v false ≡ true
      queued_too v i = ⊎_elim (λ x. met.old_marks v (s.queued v x)) (λ x. met.marks_more v x) (in_append_cases v q met.more (subst (IsIn v) met.appended i))

      -- some of the vertices to which the next one leads were met
      pub search_part : IsSearch row n m' q' done
      search_part = record {
        count = met.count ∙ s.count;
        within = let l = not_fewer in omega arith;
        marked = found;
        queued = queued_too;
        reached = reached_too;
        closed = closed_still;
      }

      -- all of them were met
      pub search_more : ((w : ℕ) → IsIn w (row (get_or q done 0)) → IsIn w list) → IsSearch row n m' q' (done + 1)
      search_more each = record {
        count = met.count ∙ s.count;
        within = let l = not_fewer in omega arith;
        marked = found;
        queued = queued_too;
        reached = reached_too;
        closed = λ k h w r. ⊎_elim
            (λ (d : k ≡ done). found w (met.each w (each w (subst (λ z. IsIn w (row z)) (ap (λ z. get_or q' z 0) d ∙ old done some) r))))
            (λ d. let l : k < done = omega (arith, d) in closed_still k l w r)
            (cases_eq k done);
      }

    all : length q ≤ done → {a b : ℕ} → Walk (HasStep row) a b → IsIn a q → IsIn b q
    all h here i = i
    all h (onward {x = x} {y = y} r w) i =
        let k = in_at x q i in
        let l : k.0 < done = omega (arith, at_below x k.0 q k.1) in
        all h w (s.closed k.0 l y (subst (λ z. IsIn y (row z)) (sym (at_is x k.0 q 0 k.1)) r))

    -- where all that were met have been gone on from, what is reached from the first is marked
    pub reached_marked : 0 < length q → length q ≤ done → (to : ℕ) → Walk (HasStep row) (get_or q 0 0) to → get_or m to false ≡ true
    reached_marked some h to w = s.queued to (all h w (at_in (get_or q 0 0) 0 q (is_at 0 q 0 some)))

    pub marked_reached : (to : ℕ) → get_or m to false ≡ true → Walk (HasStep row) (get_or q 0 0) to
    marked_reached to e = s.reached to (s.marked to e)

-- a mark is taken away with the last vertex of the queue
pub marks_fewer : (m : List Bool) (q rest : List ℕ) (v : ℕ) → ((p : ℕ) → get_or m p false ≡ true → IsIn p q) → v < length m → q ≡ rest ++ v ∷ [] → (p : ℕ) → get_or (set m v false) p false ≡ true → IsIn p rest
marks_fewer m q rest v marked there is p h = ⊎_elim
    (λ (e : p ≡ v). absurd (true≢false (sym h ∙ (ap (λ z. get_or (set m v false) z false) e ∙ get_or-set_same m v false false there))))
    (λ d. ⊎_elim (λ x. x) (λ x. ⊎_elim (λ (e : p ≡ v). absurd (d e)) (λ z. absurd z) x)
    (in_append_cases p rest (v ∷ []) (subst (IsIn p) is (marked p (sym (get_or-set_other m v p false false d) ∙ h)))))
    (cases_eq p v)

pub nexts_read : (graph : List (Vec ℕ Global)) (v : ℕ) (x : Vec ℕ Global) → v < length graph → x ≡ get_or graph v x → nexts graph v ≡ x.items
nexts_read [] v x h e = absurd (omega arith)
nexts_read (y ∷ graph) zero x h e = ap (λ (z : Vec ℕ Global). z.items) (sym e)
nexts_read (y ∷ graph) (suc v) x h e = let r : v < length graph = omega arith in nexts_read graph v x r e

-- what stands behind a mark begins with the element there
pub drop_next : (k x : ℕ) (xs ys : List ℕ) → ys ≡ xs → k < length xs → x ≡ get_or xs k x → drop k ys ≡ x ∷ drop (k + 1) ys
drop_next k x xs ys e h is =
    let one : suc k ≡ k + 1 = omega arith in
    ap (drop k) e ∙ (drop-cons xs k x h ∙ (ap (λ y. y ∷ drop (suc k) xs) (sym is) ∙ (ap (λ l. x ∷ drop (suc k) l) (sym e) ∙ ap (λ j. x ∷ drop j ys) one)))

-- An accepted run takes an event exactly if it has no fault.
use Rattle.std.proofs.Common.{◌≡◌, ℕ, suc, ◌+◌, ◌<◌, ◌≤◌, Bool, true, false, not, cond, ◌&&◌, ◌||◌, List, [], ◌∷◌, ◌++◌, length, bytes_eq, Option, Some, None, refl, sym, ap, ◌∙◌, subst, inl, inr, ⊎_elim, arith, true≢false, append-nil, append_assoc, length-append}
use Rattle.std.specs.Prelude.{nat_le, nat_lt, ◌==◌, is_some}
use Rattle.std.specs.List.{list_all}
use Rattle.std.proofs.lemmas.Bool.Decides.{nat_tests}
use Rattle.std.proofs.lemmas.Bool.{or_cases, or_left, or_right, and_from}
use Rattle.wf_model.specs.declared.event.Event.{Event}
use Rattle.wf_model.specs.declared.event.Event.TheVariants.{Start, Expand}
use Rattle.wf_model.specs.Lists.{IsIn, AllDiffer}
use Rattle.wf_model.specs.Grammar.{Grammar, head_of, body_of}
use Rattle.wf_model.specs.Run.{Instance, IsNameByte, IsName, named, made, names_of, expanded_by, CanExpand, Extends, AllExtend, IsRun, IsAccepted}
use Rattle.wf_model.specs.Faults.{is_name_byte, is_short_name, is_nil, module_in, is_one_of, some_twice, fault_of, TakingLaw}
use Rattle.wf_model.proofs.Lists.{in_append_left, in_append_right, in_append_cases, among_gives, among_from, among_not, same_bytes}
use Rattle.wf_model.proofs.Runs.{made_more, name_in, name_cases, name_new, AllExtend-append}
use Rattle.wf_model.proofs.Differ.{made_differ, one_of_name}
use Rattle.wf_model.proofs.Tests.{not_false, and_left, and_right}

-- a test that must fail for there to be no fault
pub skipped : {A : Type 0} (b : Bool) (x : A) (y : Option A) → cond b (Some x) y ≡ None → (b ≡ false) × (y ≡ None)
skipped true x y e = absurd (cc)
skipped false x y e = (refl, e)

pub skips : {A : Type 0} (b : Bool) (x : A) (y : Option A) → b ≡ false → y ≡ None → cond b (Some x) y ≡ None
skips b x y e h = ap (λ t. cond t (Some x) y) e ∙ h

-- bytes of names
between : (a c b : ℕ) → nat_le a b && nat_le b c ≡ true → (a ≤ b) × (b ≤ c)
between a c b e =
    let p : nat_le a b ≡ true = and_left (nat_le a b) (nat_le b c) e in
    let q : nat_le b c ≡ true = and_right (nat_le a b) (nat_le b c) e in
    (grind (arith, nat_tests), grind (arith, nat_tests))

within : (a c b : ℕ) → (a ≤ b) × (b ≤ c) → nat_le a b && nat_le b c ≡ true
within a c b h = let p : a ≤ b = h.0 in let q : b ≤ c = h.1 in and_from (nat_le a b) (nat_le b c) (grind (arith, nat_tests)) (grind (arith, nat_tests))

is_num : (a b : ℕ) → a == b ≡ true → a ≡ b
is_num a b e = grind (arith, nat_tests)

num_is : (a b : ℕ) → a ≡ b → a == b ≡ true
num_is a b e = grind (arith, nat_tests)

good_byte : (b : ℕ) → is_name_byte b ≡ true → IsNameByte b
good_byte b e =
    ⊎_elim (λ e. ⊎_elim (λ e. ⊎_elim (λ e. ⊎_elim (λ e. inl (between 97 122 b e)) (λ e. inr (inl (between 65 90 b e)))
    (or_cases (nat_le 97 b && nat_le b 122) (nat_le 65 b && nat_le b 90) e)) (λ e. inr (inr (inl (between 48 57 b e))))
    (or_cases (nat_le 97 b && nat_le b 122 || (nat_le 65 b && nat_le b 90)) (nat_le 48 b && nat_le b 57) e)) (λ e. inr (inr (inr (inl (is_num b 95 e)))))
    (or_cases (nat_le 97 b && nat_le b 122 || (nat_le 65 b && nat_le b 90) || (nat_le 48 b && nat_le b 57)) (b == 95) e)) (λ e. inr (inr (inr (inr (is_num b 45 e)))))
    (or_cases (nat_le 97 b && nat_le b 122 || (nat_le 65 b && nat_le b 90) || (nat_le 48 b && nat_le b 57) || (b == 95)) (b == 45) e)

byte_good : (b : ℕ) → IsNameByte b → is_name_byte b ≡ true
byte_good b (inl h) = or_left _ _ (or_left _ _ (or_left _ _ (or_left _ _ (within 97 122 b h))))
byte_good b (inr (inl h)) = or_left _ _ (or_left _ _ (or_left _ _ (or_right (nat_le 97 b && nat_le b 122) _ (within 65 90 b h))))
byte_good b (inr (inr (inl h))) = or_left _ _ (or_left _ _ (or_right (nat_le 97 b && nat_le b 122 || (nat_le 65 b && nat_le b 90)) _ (within 48 57 b h)))
byte_good b (inr (inr (inr (inl h)))) = or_left _ _ (or_right (nat_le 97 b && nat_le b 122 || (nat_le 65 b && nat_le b 90) || (nat_le 48 b && nat_le b 57)) _ (num_is b 95 h))
byte_good b (inr (inr (inr (inr h)))) = or_right (nat_le 97 b && nat_le b 122 || (nat_le 65 b && nat_le b 90) || (nat_le 48 b && nat_le b 57) || (b == 95)) _ (num_is b 45 h)

good_bytes : (n : List ℕ) → list_all is_name_byte n ≡ true → (b : ℕ) → IsIn b n → IsNameByte b
good_bytes [] e b h = absurd h
good_bytes (x ∷ n) e b (inl d) = subst IsNameByte (sym d) (good_byte x (and_left _ _ e))
good_bytes (x ∷ n) e b (inr h) = good_bytes n (and_right _ _ e) b h

bytes_good : (n : List ℕ) → ((b : ℕ) → IsIn b n → IsNameByte b) → list_all is_name_byte n ≡ true
bytes_good [] h = refl
bytes_good (x ∷ n) h = and_from _ _ (byte_good x (h x (inl refl))) (bytes_good n (λ b i. h b (inr i)))

pub short_gives : (n : List ℕ) → is_short_name n ≡ true → IsName n × (length n ≤ 64)
short_gives n e =
    let a : nat_lt 0 (length n) && nat_le (length n) 64 ≡ true = and_left (nat_lt 0 (length n) && nat_le (length n) 64) (list_all is_name_byte n) e in
    let p : nat_lt 0 (length n) ≡ true = and_left (nat_lt 0 (length n)) (nat_le (length n) 64) a in
    let q : nat_le (length n) 64 ≡ true = and_right (nat_lt 0 (length n)) (nat_le (length n) 64) a in
    (((grind (arith, nat_tests)), good_bytes n (and_right _ _ e)), grind (arith, nat_tests))

pub short_from : (n : List ℕ) → IsName n → length n ≤ 64 → is_short_name n ≡ true
short_from n h l =
    let p : 0 < length n = h.0 in
    and_from (nat_lt 0 (length n) && nat_le (length n) 64) (list_all is_name_byte n) (and_from (nat_lt 0 (length n)) (nat_le (length n) 64) (grind (arith, nat_tests)) (grind (arith, nat_tests))) (bytes_good n h.1)

pub shorts_give : (ns : List (List ℕ)) → list_all is_short_name ns ≡ true → (n : List ℕ) → IsIn n ns → is_short_name n ≡ true
shorts_give [] e n h = absurd h
shorts_give (x ∷ ns) e n (inl d) = ap is_short_name d ∙ and_left _ _ e
shorts_give (x ∷ ns) e n (inr h) = shorts_give ns (and_right _ _ e) n h

pub shorts_from : (ns : List (List ℕ)) → ((n : List ℕ) → IsIn n ns → is_short_name n ≡ true) → list_all is_short_name ns ≡ true
shorts_from [] h = refl
shorts_from (x ∷ ns) h = and_from _ _ (h x (inl refl)) (shorts_from ns (λ n i. h n (inr i)))

or_none : (a b : Bool) → a || b ≡ false → (a ≡ false) × (b ≡ false)
or_none true b e = absurd (true≢false e)
or_none false b e = (refl, e)

-- names of which none stands twice differ, and none is taken
pub twice_gives : (taken ns : List (List ℕ)) → some_twice taken ns ≡ false → AllDiffer ns × ((n : List ℕ) → IsIn n ns → IsIn n taken → ⊥)
twice_gives taken [] e = (tt, λ n h k. h)
twice_gives taken (x ∷ ns) e =
    let o = or_none (is_one_of taken x) (some_twice (taken ++ x ∷ []) ns) e in
    let r = twice_gives (taken ++ x ∷ []) ns o.1 in (
      ((λ h. r.1 x h (in_append_right x taken (x ∷ []) (inl refl))), r.0),
      λ n h k. ⊎_elim (λ (d : n ≡ x). among_not x taken o.0 (subst (λ z. IsIn z taken) d k)) (λ i. r.1 n i (in_append_left n taken (x ∷ []) k)) h,
    )

pub twice_from : (taken ns : List (List ℕ)) → AllDiffer ns → ((n : List ℕ) → IsIn n ns → IsIn n taken → ⊥) → some_twice taken ns ≡ false
twice_from taken [] d h = refl
twice_from taken (x ∷ ns) d h = go (is_one_of taken x) refl (twice_from (taken ++ x ∷ []) ns d.1 (λ n i k. ⊎_elim (λ a. h n (inr i) a) (λ a. ⊎_elim (λ (e : n ≡ x). d.0 (subst (λ z. IsIn z ns) e i)) (λ z. z) a) (in_append_cases n taken (x ∷ []) k)))
  where
    go : (b : Bool) → is_one_of taken x ≡ b → some_twice (taken ++ x ∷ []) ns ≡ false → is_one_of taken x || some_twice (taken ++ x ∷ []) ns ≡ false
    go true e r = absurd (h x (inl refl) (among_gives x taken e))
    go false e r = ap (λ t. t || some_twice (taken ++ x ∷ []) ns) e ∙ r

-- the first instance of a name
pub module_gives : (is : List Instance) (n : List ℕ) → is_one_of (names_of is) n ≡ true → IsIn (record { name = n; module_no = module_in is n }) is
module_gives [] n e = absurd (true≢false (sym e))
module_gives (i ∷ is) n e = go (module_gives is n) (bytes_eq n i.name) refl e
  where
    go : (is_one_of (names_of is) n ≡ true → IsIn (record { name = n; module_no = module_in is n }) is) → (b : Bool) → bytes_eq n i.name ≡ b → b || is_one_of (names_of is) n ≡ true → IsIn {A = Instance} (record { name = n; module_no = module_in (i ∷ is) n }) (i ∷ is)
    go ih true t h = inl (λ z. record { name = same_bytes n i.name t z; module_no = ap (λ b. cond b i.module_no (module_in is n)) t z })
    go ih false t h = inr (subst (λ m. IsIn (record { name = n; module_no = m }) is) (sym (ap (λ b. cond b i.module_no (module_in is n)) t)) (ih h))

pub not_some : {A : Type 0} (o : Option A) → is_some o ≡ false → o ≡ None
not_some None e = refl
not_some (Some x) e = absurd (true≢false e)

pub same_num : (a b : ℕ) → not (a == b) ≡ false → a ≡ b
same_num a b e = let f : a == b ≡ true = not_false _ e in grind (arith, nat_tests)

pub nil_gives : {A : Type 0} (xs : List A) → is_nil xs ≡ true → xs ≡ []
nil_gives [] e = refl
nil_gives (x ∷ xs) e = absurd (true≢false (sym e))

full_gives : {A : Type 0} (x : A) (xs : List A) → IsIn x xs → is_nil xs ≡ false
full_gives x [] h = absurd h
full_gives x (y ∷ xs) h = refl

pub length-named : (names : List (List ℕ)) (ms : List ℕ) → length names ≡ length ms → length (named names ms) ≡ length names
length-named [] ms e = refl
length-named (n ∷ ns) [] e = absurd (omega arith)
length-named (n ∷ ns) (m ∷ ms) e = let d : length ns ≡ length ms = omega arith in let r = length-named ns ms d in ap suc r

pub extended : (g : Grammar) (m : ℕ) (b a : List Event) (e : Event) → AllExtend g m b a → Extends g m (b ++ a) e → AllExtend g m b (a ++ e ∷ [])
extended g m b [] e h x = (subst (λ l. Extends g m l e) (append-nil b) x, tt)
extended g m b (d ∷ a) e h x = (h.0, extended g m (b ++ d ∷ []) a e h.1 (subst (λ l. Extends g m l e) (sym (append_assoc b (d ∷ []) a)) x))

-- a run's instances have different names
pub run_differs : (g : Grammar) (m : ℕ) (a : List Event) → IsRun g m a → AllDiffer (names_of (made g m a))
run_differs g m a h = made_differ g m [] a tt h

module _ (g : Grammar) (most : ℕ) (before : List Event) (acc : IsAccepted g most before) where
  made_count : (i : List ℕ) (p : ℕ) (names : List (List ℕ)) → length names ≡ length (body_of g p) → length (made g g.start (before ++ Expand i p names ∷ [])) ≡ length (made g g.start before) + length names
  made_count i p names e =
      ap length (made_more g g.start before (Expand i p names)) ∙ (length-append (made g g.start before) (named names (body_of g p)) ∙ ap (λ n. length (made g g.start before) + n) (length-named names (body_of g p) e))

  started : (r : List ℕ) → fault_of g most before (Start r) ≡ None → IsAccepted g most (before ++ Start r ∷ [])
  started r h =
      let a = skipped (not (is_nil before)) _ _ h in
      let b = skipped (not (is_short_name r)) _ _ a.1 in
      let c = skipped (nat_lt most 1) _ _ b.1 in
      let nil = nil_gives before (not_false _ a.0) in
      let short = short_gives r (not_false _ b.0) in
      let room : 1 ≤ most = let t : nat_lt most 1 ≡ false = c.0 in grind (arith, nat_tests) in
      subst (λ l. IsAccepted g most (l ++ Start r ∷ [])) (sym nil)
      (((refl, short.0), tt), room, λ n k. ⊎_elim (λ (e : n ≡ r). subst (λ z. length z ≤ 64) (sym e) short.1) (λ z. absurd z) k)

  expanded : (i : List ℕ) (p : ℕ) (names : List (List ℕ)) → fault_of g most before (Expand i p names) ≡ None → IsAccepted g most (before ++ Expand i p names ∷ [])
  expanded i p names h =
      let is = made g g.start before in
      let t1 = skipped (is_nil before) _ _ h in
      let t2 = skipped (not (is_one_of (names_of is) i)) _ _ t1.1 in
      let t3 = skipped (nat_le (length g.productions) p) _ _ t2.1 in
      let t4 = skipped (not (module_in is i == head_of g p)) _ _ t3.1 in
      let t5 = skipped (is_some (expanded_by before i)) _ _ t4.1 in
      let t6 = skipped (not (length names == length (body_of g p))) _ _ t5.1 in
      let t7 = skipped (not (list_all is_short_name names)) _ _ t6.1 in
      let t8 = skipped (some_twice (names_of is) names) _ _ t7.1 in
      let t9 = skipped (nat_lt most (length is + length names)) _ _ t8.1 in
      let twice = twice_gives (names_of is) names t8.0 in
      let each = same_num (length names) (length (body_of g p)) t6.0 in
      let short : (n : List ℕ) → IsIn n names → IsName n × (length n ≤ 64) = λ n k. short_gives n (shorts_give names (not_false _ t7.0) n k) in
      let can : CanExpand g g.start before i p names =
      record {
        in_range = (let t : nat_le (length g.productions) p ≡ false = t3.0 in grind (arith, nat_tests));
        stands = subst (λ m. IsIn (record { name = i; module_no = m }) is) (same_num (module_in is i) (head_of g p) t4.0) (module_gives is i (not_false _ t2.0));
        open_end = not_some (expanded_by before i) t5.0;
        one_each = each;
        good = λ n k. (short n k).0;
        differ = twice.0;
        new = twice.1;
      } in
      let room : length is + length names ≤ most = let t : nat_lt most (length is + length names) ≡ false = t9.0 in grind (arith, nat_tests) in (
        extended g g.start [] before (Expand i p names) acc.0 can,
        subst (λ n. n ≤ most) (sym (made_count i p names each)) room,
        λ n k. ⊎_elim (λ a. acc.2 n a) (λ a. (short n a).1) (name_cases g g.start before i p names n k),
      )

  unstarted : (r : List ℕ) → IsAccepted g most (before ++ Start r ∷ []) → fault_of g most before (Start r) ≡ None
  unstarted r a =
      let x = (AllExtend-append g g.start [] before (Start r ∷ []) a.0).1.0 in
      let n : IsIn r (names_of (made g g.start (before ++ Start r ∷ []))) = subst (λ l. IsIn r (names_of (made g g.start (l ++ Start r ∷ [])))) (sym x.0) (inl refl) in
      let room : length (made g g.start (before ++ Start r ∷ [])) ≤ most = a.1 in
      let one : 1 ≤ most = subst (λ l. length (made g g.start (l ++ Start r ∷ [])) ≤ most) x.0 room in
      skips (not (is_nil before)) _ _ (ap (λ (l : List Event). not (is_nil l)) x.0)
      (skips (not (is_short_name r)) _ _ (ap not (short_from r x.1 (a.2 r n)))
      (skips (nat_lt most 1) _ _ (grind (arith, nat_tests)) refl))

  unexpanded : (i : List ℕ) (p : ℕ) (names : List (List ℕ)) → IsAccepted g most (before ++ Expand i p names ∷ []) → fault_of g most before (Expand i p names) ≡ None
  unexpanded i p names a =
      let is = made g g.start before in
      let can : CanExpand g g.start before i p names = (AllExtend-append g g.start [] before (Expand i p names ∷ []) a.0).1.0 in
      let there = among_from i (names_of is) (name_in _ is can.stands) in
      let same : module_in is i ≡ head_of g p = ap (λ (z : Instance). z.module_no) (one_of_name is (run_differs g g.start before acc.0) (record { name = i; module_no = module_in is i }) (record { name = i; module_no = head_of g p }) (module_gives is i there) can.stands refl) in
      let in_range = can.in_range in
      let each = can.one_each in
      let room : length is + length names ≤ most = subst (λ n. n ≤ most) (made_count i p names each) a.1 in
      skips (is_nil before) _ _ (some_events before can.stands)
      (skips (not (is_one_of (names_of is) i)) _ _ (ap not there)
      (skips (nat_le (length g.productions) p) _ _ (grind (arith, nat_tests))
      (skips (not (module_in is i == head_of g p)) _ _ (num_same (module_in is i) (head_of g p) same)
      (skips (is_some (expanded_by before i)) _ _ (ap is_some can.open_end)
      (skips (not (length names == length (body_of g p))) _ _ (num_same (length names) (length (body_of g p)) each)
      (skips (not (list_all is_short_name names)) _ _ (ap not (shorts_from names (λ n k. short_from n (can.good n k) (a.2 n (name_new g g.start before i p names n each k)))))
      (skips (some_twice (names_of is) names) _ _ (twice_from (names_of is) names can.differ can.new)
      (skips (nat_lt most (length is + length names)) _ _ (grind (arith, nat_tests)) refl))))))))
    where
      some_events : (b : List Event) → IsIn (record { name = i; module_no = head_of g p }) (made g g.start b) → is_nil b ≡ false
      some_events [] h = absurd h
      some_events (x ∷ b) h = refl

      num_same : (a b : ℕ) → a ≡ b → not (a == b) ≡ false
      num_same a b e = grind (arith, nat_tests)

pub taking_law : TakingLaw
taking_law g most before (Start r) acc = (started g most before acc r, unstarted g most before acc r)
taking_law g most before (Expand i p names) acc = (expanded g most before acc i p names, unexpanded g most before acc i p names)

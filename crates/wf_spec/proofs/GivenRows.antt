-- Rows of bits for sets of pairs.
use Rattle.wf_model.proofs.Tests.{some_more, or_nothing}
use Rattle.std.proofs.Common.{◌≡◌, ℕ, ◌+◌, ◌<◌, ◌≤◌, Bool, true, false, not, cond, nat_lt, true≢false, ◌==◌, ◌&&◌, ◌||◌, List, [], ◌∷◌, ◌++◌, Vec, inl, inr, map, take, length, get_or, set, refl, sym, ap, ◌∙◌, subst, arith}
use Rattle.std.specs.Vec.{with_items}
use Rattle.std.specs.declared.alloc.Global.{Global}
use Rattle.std.proofs.lemmas.Bool.{eqb-true, eqb-false, eq-eqb, ltb-true, ltb-false}
use Rattle.std.proofs.lemmas.List.{take_more, length-append, map-append, get_or_append_left, get_or_at, get_or_default, length-map, map-set, get_or-map, get_or-set_same, get_or-set_other, with_items_is}
use Rattle.wf_model.specs.Grammar.{Module, Given, Grammar, inputs_of, outputs_of}
use Rattle.wf_model.specs.Lists.{IsIn}
use Rattle.wf_model.proofs.Lists.{in_map, some_gives}
use Rattle.wf_spec.specs.declared.given.Pair.{Pair}
use Rattle.wf_spec.specs.Naming.{module_in}
use Rattle.wf_spec.specs.FewPorts.{HaveFewPorts}
use Rattle.wf_spec.specs.Tables.{AreRows}
use Rattle.wf_spec.proofs.Tables.{get_in}
use Rattle.wf_spec.specs.Rows.{bit_in, AreAlike, has_pair, AreAdded}
use Rattle.wf_spec.specs.GivenRows.{gives, names_it, pair_of, AreFirst, AreGivenIn, AreNamed, rows_in, table_of, AreAllAdded, HavePlaces}

-- rows in a table, as they are held
pub rows_read : (table : List (Vec ℕ Global)) (m : ℕ) (v : Vec ℕ Global) → m < length table → rows_in (table_of table) m ≡ (get_or table m v).items
rows_read table m v inside = get_or-map (λ (w : Vec ℕ Global). w.items) table m v [] inside

-- what a part gives is added to the rows of its module
pub part_added : (table : List (Vec ℕ Global)) (d : Given) (m : ℕ) (v : Vec ℕ Global) (pairs : List Pair) (rows new : List ℕ) → m ≡ d.module_no → m < length table → rows ≡ (get_or table m v).items
    → map pair_of pairs ≡ d.pairs → AreAdded (map pair_of pairs) rows new → length new ≡ length rows
    → AreAllAdded (d ∷ []) (table_of table) (table_of (set table m (with_items (get_or table m v) new)))
part_added table d m v pairs rows new number inside was same added count = record {
  as_many = λ n. ap (λ t. length (rows_in t n)) after ∙ lengths n (m == n) refl;
  bits = λ n i o. ap (λ t. bit_in (rows_in t n) i o) after ∙ bits_at n i o (m == n) refl;
}
  where
    after : table_of (set table m (with_items (get_or table m v) new)) ≡ set (table_of table) m new
    after = map-set (λ (w : Vec ℕ Global). w.items) table m (with_items (get_or table m v) new)
        ∙ ap (set (table_of table) m) (with_items_is (get_or table m v) new (count ∙ (ap length was ∙ sym (get_or table m v).ok.0)))

    here : rows ≡ rows_in (table_of table) m
    here = was ∙ sym (rows_read table m v inside)

    below : m < length (table_of table)
    below = subst (λ n. m < n) (sym (length-map table (λ (w : Vec ℕ Global). w.items))) inside

    lengths : (n : ℕ) (b : Bool) → m == n ≡ b → length (rows_in (set (table_of table) m new) n) ≡ length (rows_in (table_of table) n)
    lengths n true e =
        subst (λ k. length (rows_in (set (table_of table) m new) k) ≡ length (rows_in (table_of table) k)) (eqb-true m n e)
        (ap length (get_or-set_same (table_of table) m new [] below) ∙ (count ∙ ap length here))
    lengths n false e = ap length (get_or-set_other (table_of table) m n new [] (λ q. eqb-false m n e (sym q)))

    bits_at : (n i o : ℕ) (b : Bool) → m == n ≡ b → bit_in (rows_in (set (table_of table) m new) n) i o ≡ cond {A = ℕ} ((d.module_no == n) && has_pair d.pairs i o || false) 1 (bit_in (rows_in (table_of table) n) i o)
    bits_at n i o true e =
        subst (λ k. bit_in (rows_in (set (table_of table) m new) k) i o ≡ cond {A = ℕ} ((d.module_no == k) && has_pair d.pairs i o || false) 1 (bit_in (rows_in (table_of table) k) i o)) (eqb-true m n e)
        (ap (λ r. bit_in r i o) (get_or-set_same (table_of table) m new [] below)
        ∙ (added i o
        ∙ (ap (λ ps. cond {A = ℕ} (has_pair ps i o) 1 (bit_in rows i o)) same
        ∙ (ap (λ r. cond {A = ℕ} (has_pair d.pairs i o) 1 (bit_in r i o)) here
        ∙ (ap (λ b. cond {A = ℕ} b 1 (bit_in (rows_in (table_of table) m) i o)) (or_nothing (has_pair d.pairs i o))
        ∙ sym (ap (λ b. cond {A = ℕ} (b && has_pair d.pairs i o || false) 1 (bit_in (rows_in (table_of table) m) i o)) (eq-eqb d.module_no m (sym number))))))))
    bits_at n i o false e =
        ap (λ r. bit_in r i o) (get_or-set_other (table_of table) m n new [] (λ q. eqb-false m n e (sym q)))
        ∙ sym (ap (λ b. cond {A = ℕ} (b && has_pair d.pairs i o || false) 1 (bit_in (rows_in (table_of table) n) i o)) (ap (λ k. k == n) (sym number) ∙ e))

-- the pairs of a part have places
pub part_inputs : (table : List (Vec ℕ Global)) (d : Given) (m : ℕ) (v : Vec ℕ Global) (pairs : List Pair) (rows : List ℕ) → m ≡ d.module_no → HavePlaces (d ∷ []) (table_of table) → m < length table
    → rows ≡ (get_or table m v).items → map pair_of pairs ≡ d.pairs → (e : Pair) → IsIn e pairs → e.input.0 < length rows
part_inputs table d m v pairs rows number h inside was same e i =
    subst (λ rs. e.input.0 < length rs) (ap (rows_in (table_of table)) (sym number) ∙ (rows_read table m v inside ∙ sym was))
    (h.inputs d (pair_of e) (inl refl) (subst (IsIn (pair_of e)) same (in_map pair_of e pairs i)))

pub part_outputs : (table : List (List ℕ)) (d : Given) (pairs : List Pair) → HavePlaces (d ∷ []) table → map pair_of pairs ≡ d.pairs → (e : Pair) → IsIn e pairs → e.output.0 < 64
part_outputs table d pairs h same e i = h.outputs d (pair_of e) (inl refl) (subst (IsIn (pair_of e)) same (in_map pair_of e pairs i))

pub part_module : (table : List (Vec ℕ Global)) (d : Given) (m : ℕ) → m ≡ d.module_no → HavePlaces (d ∷ []) (table_of table) → m < length table
part_module table d m number h =
    subst (λ k. k < length table) (sym number) (subst (λ n. d.module_no < n) (length-map table (λ (w : Vec ℕ Global). w.items)) (h.module_no d (inl refl)))

-- one part more is added
pub all_more : (given : List Given) (k : ℕ) (d : Given) (a b c : List (List ℕ)) → d ≡ get_or given k d → k < length given → AreAllAdded (take k given) a b → AreAllAdded (d ∷ []) b c
    → AreAllAdded (take (k + 1) given) a c
all_more given k d a b c was inside old new =
    subst (λ ds. AreAllAdded ds a c) (sym (take_more given k d inside ∙ ap (λ x. take k given ++ x ∷ []) (sym was))) (record {
      as_many = λ m. new.as_many m ∙ old.as_many m;
      bits = λ m i o. new.bits m i o ∙ (ap (λ x. cond {A = ℕ} (gives (d ∷ []) m i o) 1 x) (old.bits m i o) ∙ both m i o);
    })
  where
    chain : (x y : Bool) (n : ℕ) → cond {A = ℕ} (y || false) 1 (cond {A = ℕ} x 1 n) ≡ cond {A = ℕ} (x || y) 1 n
    chain true true n = refl
    chain true false n = refl
    chain false true n = refl
    chain false false n = refl

    both : (m i o : ℕ) → cond {A = ℕ} (gives (d ∷ []) m i o) 1 (cond {A = ℕ} (gives (take k given) m i o) 1 (bit_in (rows_in a m) i o)) ≡ cond {A = ℕ} (gives (take k given ++ d ∷ []) m i o) 1 (bit_in (rows_in a m) i o)
    both m i o =
        chain (gives (take k given) m i o) ((d.module_no == m) && has_pair d.pairs i o) (bit_in (rows_in a m) i o)
        ∙ ap (λ x. cond {A = ℕ} x 1 (bit_in (rows_in a m) i o)) (sym (some_more (λ (e : Given). (e.module_no == m) && has_pair e.pairs i o) (take k given) d))

-- a part has its place still
pub still_placed : (given : List Given) (done : List Given) (d : Given) (before after : List (List ℕ)) → HavePlaces given before → AreAllAdded done before after → length after ≡ length before → IsIn d given
    → HavePlaces (d ∷ []) after
still_placed given done d before after h added count here = record {
  module_no = λ e i. subst (λ n. e.module_no < n) (sym count) (h.module_no e (is e i));
  inputs = λ e p i j. subst (λ n. p.0 < n) (sym (added.as_many e.module_no)) (h.inputs e p (is e i) j);
  outputs = λ e p i j. h.outputs e p (is e i) j;
}
  where
    is : (e : Given) → IsIn e (d ∷ []) → IsIn e given
    is e (inl q) = subst (λ x. IsIn x given) (sym q) here
    is e (inr q) = absurd q

-- one module more has its first rows
pub first_more : (modules : List Module) (flags : List Bool) (k : ℕ) (m : Module) (rows : Vec ℕ Global) (old new : List (Vec ℕ Global)) → AreFirst modules flags k (table_of old) → m ≡ get_or modules k m
    → k < length modules → AreAlike m (not (get_or flags k false)) rows.items → new ≡ old ++ rows ∷ [] → AreFirst modules flags (k + 1) (table_of new)
first_more modules flags k m rows old new first was inside alike is =
    subst (AreFirst modules flags (k + 1)) (sym (ap table_of is ∙ map-append (λ (v : Vec ℕ Global). v.items) old (rows ∷ []))) (record {
      one_each = length-append (table_of old) (rows.items ∷ []) ∙ ap (λ n. n + 1) first.one_each;
      each = λ n below. by n below (nat_lt n k) refl;
    })
  where
    by : (n : ℕ) → n < k + 1 → (b : Bool) → nat_lt n k ≡ b → AreAlike (module_in modules n) (not (get_or flags n false)) (rows_in (table_of old ++ rows.items ∷ []) n)
    by n below true e =
        let l = ltb-true n k e in
        subst (AreAlike (module_in modules n) (not (get_or flags n false))) (sym (get_or_append_left (table_of old) (rows.items ∷ []) [] n (let h = first.one_each in omega arith))) (first.each n l)
    by n below false e =
        let l = ltb-false n k e in
        let same : k ≡ n = omega arith in
        subst (λ j. AreAlike (module_in modules j) (not (get_or flags j false)) (rows_in (table_of old ++ rows.items ∷ []) j)) same
        (subst (AreAlike (module_in modules k) (not (get_or flags k false))) (sym (get_or_at (table_of old) rows.items [] [] k first.one_each))
        (subst (λ (x : Module). AreAlike x (not (get_or flags k false)) rows.items) (was ∙ get_or_default modules k m _ inside) alike))

-- the first rows have places for the pairs of parts
pub first_places : (modules : List Module) (flags : List Bool) (given : List Given) (table : List (List ℕ)) → HaveFewPorts modules → AreGivenIn modules given → AreFirst modules flags (length modules) table
    → HavePlaces given table
first_places modules flags given table few known first = record {
  module_no = λ d i. (let a = known.module_no d i in let b = first.one_each in omega arith);
  inputs = λ d e i j. subst (λ n. e.0 < n) (sym (first.each d.module_no (known.module_no d i)).one_each) (known.pairs d e i j).0;
  outputs = λ d e i j.
      let a = (known.pairs d e i j).1 in
      let b = (few (module_in modules d.module_no) (get_in d.module_no modules (record { name = []; inputs = []; outputs = [] }) (known.module_no d i))).outputs in
      omega arith;
}

-- a pair that is given is one of ports
given_below : (modules : List Module) (given : List Given) (m i o : ℕ) → AreGivenIn modules given → gives given m i o ≡ true → o < length (module_in modules m).outputs
given_below modules given m i o known h =
    let r = some_gives (λ (d : Given). (d.module_no == m) && has_pair d.pairs i o) given h in
    let d = r.0 in
    let s = both (d.module_no == m) (has_pair d.pairs i o) r.2 in
    let t = some_gives (λ (e : ℕ × ℕ). (e.0 == i) && (e.1 == o)) d.pairs s.1 in
    let u = both (t.0.0 == i) (t.0.1 == o) t.2 in
    subst (λ k. k < length (module_in modules m).outputs) (eqb-true t.0.1 o u.1)
    (subst (λ k. t.0.1 < length (module_in modules k).outputs) (eqb-true d.module_no m s.0) (known.pairs d t.0 r.1 t.1).1)
  where
    both : (a b : Bool) → a && b ≡ true → (a ≡ true) × (b ≡ true)
    both true b e = (refl, e)
    both false b e = absurd (true≢false (sym e))

-- the first rows with the pairs of all parts are the rows of a grammar
rows_made : (g : Grammar) (flags : List Bool) (before after : List (List ℕ)) → AreGivenIn g.modules g.given → AreNamed g.given (length g.modules) flags → AreFirst g.modules flags (length g.modules) before
    → AreAllAdded g.given before after → length after ≡ length before → AreRows g after
rows_made g flags before after known named first added count = (
  count ∙ first.one_each,
  λ m below. record {
    one_each = added.as_many m ∙ (first.each m below).one_each;
    bits = λ i o a b. ap (λ n. n == 1) (added.bits m i o) ∙ by m i o below a b (names_it g.given m) refl;
    no_more = λ i o above. added.bits m i o ∙ past m i o below above (gives g.given m i o) refl;
  },
)
  where
    test : (x : Bool) → (cond {A = ℕ} x 1 0 == 1) ≡ x
    test true = refl
    test false = refl

    all : (x : Bool) → (cond {A = ℕ} x 1 1 == 1) ≡ true
    all true = refl
    all false = refl

    by : (m i o : ℕ) → m < length g.modules → i < inputs_of g m → o < outputs_of g m → (b : Bool) → names_it g.given m ≡ b
        → (cond {A = ℕ} (gives g.given m i o) 1 (bit_in (rows_in before m) i o) == 1) ≡ cond (names_it g.given m) (gives g.given m i o) true
    by m i o below a b true e =
        ap (λ n. cond {A = ℕ} (gives g.given m i o) 1 n == 1) ((first.each m below).bits i o a b ∙ ap (λ f. cond {A = ℕ} (not f) 1 0) (named.each m below ∙ e))
        ∙ (test (gives g.given m i o) ∙ sym (ap (λ f. cond f (gives g.given m i o) true) e))
    by m i o below a b false e =
        ap (λ n. cond {A = ℕ} (gives g.given m i o) 1 n == 1) ((first.each m below).bits i o a b ∙ ap (λ f. cond {A = ℕ} (not f) 1 0) (named.each m below ∙ e))
        ∙ (all (gives g.given m i o) ∙ sym (ap (λ f. cond f (gives g.given m i o) true) e))

    past : (m i o : ℕ) → m < length g.modules → outputs_of g m ≤ o → (b : Bool) → gives g.given m i o ≡ b → cond {A = ℕ} (gives g.given m i o) 1 (bit_in (rows_in before m) i o) ≡ 0
    past m i o below above true e = absurd (let l = given_below g.modules g.given m i o known e in omega arith)
    past m i o below above false e = ap (λ f. cond {A = ℕ} f 1 (bit_in (rows_in before m) i o)) e ∙ (first.each m below).no_more i o above

pub rows_all : (modules : List Module) (given : List Given) (flags read : List Bool) (before after : List (List ℕ)) → AreGivenIn modules given → AreNamed given (length modules) flags → read ≡ flags
    → AreFirst modules read (length modules) before → AreAllAdded given before after → length after ≡ length before → (g : Grammar) → g.modules ≡ modules → g.given ≡ given → AreRows g after
rows_all modules given flags read before after known named same first added count g ms gs =
    rows_made g flags before after
    (subst (λ l. AreGivenIn l g.given) (sym ms) (subst (AreGivenIn modules) (sym gs) known))
    (subst (λ (l : List Module). AreNamed g.given (length l) flags) (sym ms) (subst (λ l. AreNamed l (length modules) flags) (sym gs) named))
    (subst (λ (l : List Module). AreFirst l flags (length l) before) (sym ms) (subst (λ f. AreFirst modules f (length modules) before) same first))
    (subst (λ l. AreAllAdded l before after) (sym gs) added) count

-- The pairs that a package gives to its modules: a module keeps its perceived pairs.
use Rattle.std.proofs.Common.{◌≡◌, ℕ, zero, suc, ◌+◌, ◌<◌, ◌==◌, ◌&&◌, ◌||◌, Bool, true, false, cond, List, [], ◌∷◌, Option, Some, None, refl, sym, ap, ◌∙◌, subst, inl, inr, arith}
use Rattle.std.specs.List.{list_all}
use Rattle.std.proofs.lemmas.Bool.{eq-eqb, ne_eqb, and_parts}
use Rattle.wf_model.specs.Lists.{IsIn, IsAt, some, numbers_from}
use Rattle.wf_model.specs.Grammar.{Given, is_given}
use Rattle.wf_model.proofs.Level.{numbers_in}
use Rattle.wf_model.proofs.Tests.{or_nothing}
use Rattle.package_model.specs.Shown.{ShownModule}
use Rattle.package_model.specs.Packages.{is_among, has_all, given_if, package_given}

all_gives : (test : ℕ → Bool) (k : ℕ) (ks : List ℕ) → list_all test ks ≡ true → IsIn k ks → test k ≡ true
all_gives test k [] h i = absurd i
all_gives test k (j ∷ ks) h (inl e) = ap test e ∙ (and_parts (test j) (list_all test ks) h).0
all_gives test k (j ∷ ks) h (inr i) = all_gives test k ks (and_parts (test j) (list_all test ks) h).1 i

-- something is given to the module k
abbrev is_named : ℕ → List Given → Bool
is_named k ds = some (λ (d : Given). d.module_no == k) ds

-- the pair is among what is given to the module k
abbrev is_listed : ℕ → ℕ → ℕ → List Given → Bool
is_listed k i o ds = some (λ (d : Given). (d.module_no == k) && is_among d.pairs (i, o)) ds

-- a part more at the front, or none
abbrev given_unless : ℕ → Bool → List (ℕ × ℕ) → List Given → List Given
given_unless c all pairs rest = cond all rest (record { module_no = c; pairs = pairs } ∷ rest)

-- what is given to modules from c on is given to none before
named_later : (c k : ℕ) (ss : List ShownModule) → k < c → is_named k (package_given c ss) ≡ false
named_later c k [] h = refl
named_later c k (s ∷ ss) h = go s.pairs (named_later (suc c) k ss (omega arith))
  where
    go : (o : Option (List (ℕ × ℕ))) → is_named k (package_given (suc c) ss) ≡ false → is_named k (given_if c s.ins s.outs o (package_given (suc c) ss)) ≡ false
    go None ih = ih
    go (Some pairs) ih = by_all (has_all s.ins s.outs pairs)
      where
        by_all : (b : Bool) → is_named k (given_unless c b pairs (package_given (suc c) ss)) ≡ false
        by_all true = ih
        by_all false = ap (λ b. b || is_named k (package_given (suc c) ss)) (ne_eqb c k (λ e. absurd (omega arith))) ∙ ih

listed_later : (c k i o : ℕ) (ss : List ShownModule) → k < c → is_listed k i o (package_given c ss) ≡ false
listed_later c k i o [] h = refl
listed_later c k i o (s ∷ ss) h = go s.pairs (listed_later (suc c) k i o ss (omega arith))
  where
    go : (q : Option (List (ℕ × ℕ))) → is_listed k i o (package_given (suc c) ss) ≡ false → is_listed k i o (given_if c s.ins s.outs q (package_given (suc c) ss)) ≡ false
    go None ih = ih
    go (Some pairs) ih = by_all (has_all s.ins s.outs pairs)
      where
        by_all : (b : Bool) → is_listed k i o (given_unless c b pairs (package_given (suc c) ss)) ≡ false
        by_all true = ih
        by_all false = ap (λ b. (b && is_among pairs (i, o)) || is_listed k i o (package_given (suc c) ss)) (ne_eqb c k (λ e. absurd (omega arith))) ∙ ih

-- a module with perceived pairs has them by what is given
pub given_at : (c j k : ℕ) → k ≡ c + j → (ss : List ShownModule) (s : ShownModule) (pairs : List (ℕ × ℕ)) → IsAt s j ss → s.pairs ≡ Some pairs → (i o : ℕ) → i < s.ins → o < s.outs →
    is_given (package_given c ss) k i o ≡ is_among pairs (i, o)
given_at c j k e [] s pairs h sp i o hi ho = absurd h
given_at c zero k e (t ∷ ss) s pairs h sp i o hi ho =
    subst (λ q. is_given (given_if c t.ins t.outs q later) k i o ≡ is_among pairs (i, o)) (sym (ap (λ (z : ShownModule). z.pairs) (sym h) ∙ sp)) (go (has_all t.ins t.outs pairs) refl)
  where
    later : List Given
    later = package_given (suc c) ss

    here : (c == k) ≡ true
    here = eq-eqb c k (omega arith)

    go : (b : Bool) → has_all t.ins t.outs pairs ≡ b → is_given (given_unless c (has_all t.ins t.outs pairs) pairs later) k i o ≡ is_among pairs (i, o)
    go true a =
        let hi2 : i < t.ins = subst (λ (z : ShownModule). i < z.ins) h hi in
        let ho2 : o < t.outs = subst (λ (z : ShownModule). o < z.outs) h ho in
        let row = all_gives (λ i. list_all (λ o. is_among pairs (i, o)) (numbers_from 0 t.outs)) i (numbers_from 0 t.ins) a (numbers_in i 0 t.ins (omega arith) (omega arith)) in
        let there : is_among pairs (i, o) ≡ true = all_gives (λ o. is_among pairs (i, o)) o (numbers_from 0 t.outs) row (numbers_in o 0 t.outs (omega arith) (omega arith)) in
        ap (λ z. is_given (given_unless c z pairs later) k i o) a ∙ (ap (λ z. cond z (is_listed k i o later) true) (named_later (suc c) k ss (omega arith)) ∙ sym there)
    go false a =
        ap (λ z. is_given (given_unless c z pairs later) k i o) a ∙
        (ap (λ z. cond (z || is_named k later) ((z && is_among pairs (i, o)) || is_listed k i o later) true) here ∙
        (ap (λ z. is_among pairs (i, o) || z) (listed_later (suc c) k i o ss (omega arith)) ∙ sym (or_nothing (is_among pairs (i, o)))))
given_at c (suc j) k e (t ∷ ss) s pairs h sp i o hi ho =
    skip t.pairs (given_at (suc c) j k (omega arith) ss s pairs h sp i o hi ho)
  where
    skip : (q : Option (List (ℕ × ℕ))) → is_given (package_given (suc c) ss) k i o ≡ is_among pairs (i, o) → is_given (given_if c t.ins t.outs q (package_given (suc c) ss)) k i o ≡ is_among pairs (i, o)
    skip None ih = ih
    skip (Some ps) ih = by_all (has_all t.ins t.outs ps)
      where
        by_all : (b : Bool) → is_given (given_unless c b ps (package_given (suc c) ss)) k i o ≡ is_among pairs (i, o)
        by_all true = ih
        by_all false = ap (λ z. cond (z || is_named k (package_given (suc c) ss)) ((z && is_among ps (i, o)) || is_listed k i o (package_given (suc c) ss)) true) (ne_eqb c k (λ q. absurd (omega arith))) ∙ ih

-- the part is that of a module with perceived pairs
abbrev pub IsGivenFrom : ℕ → List ShownModule → Given → Type 0
IsGivenFrom c ss d = (j : ℕ) × (t : ShownModule) × (pairs : List (ℕ × ℕ)) × IsAt t j ss × (t.pairs ≡ Some pairs) × (d ≡ record { module_no = c + j; pairs = pairs })

-- each part is
pub given_from : (c : ℕ) (ss : List ShownModule) (d : Given) → IsIn d (package_given c ss) → IsGivenFrom c ss d
given_from c [] d h = absurd h
given_from c (t ∷ ss) d h = go t.pairs refl (given_from (suc c) ss d) h
  where
    later : IsGivenFrom (suc c) ss d → IsGivenFrom c (t ∷ ss) d
    later r = let z : suc c + r.0 ≡ c + suc r.0 = omega arith in (suc r.0, r.1, r.2, r.3, r.4, r.5 ∙ ap (λ k. record { module_no = k; pairs = r.2 }) z)

    go : (o : Option (List (ℕ × ℕ))) → t.pairs ≡ o → (IsIn d (package_given (suc c) ss) → IsGivenFrom (suc c) ss d) → IsIn d (given_if c t.ins t.outs o (package_given (suc c) ss)) → IsGivenFrom c (t ∷ ss) d
    go None e ih q = later (ih q)
    go (Some pairs) e ih q = by_all (has_all t.ins t.outs pairs) q
      where
        by_all : (b : Bool) → IsIn d (given_unless c b pairs (package_given (suc c) ss)) → IsGivenFrom c (t ∷ ss) d
        by_all true q = later (ih q)
        by_all false (inl w) = let z : c ≡ c + 0 = omega arith in (0, t, pairs, refl, e, w ∙ ap (λ k. record { module_no = k; pairs = pairs }) z)
        by_all false (inr q) = later (ih q)

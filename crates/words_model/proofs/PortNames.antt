-- The names of lifted ports: they are short, and different ports and states have different ones.
use Rattle.std.proofs.Common.{◌≡◌, ℕ, suc, ◌+◌, ◌^◌, ◌≤◌, ◌<◌, List, [], ◌∷◌, ◌++◌, map, flat_map, length, refl, sym, ap, ◌∙◌, subst, inl, inr, ⊎_elim, arith, length-append}
use Rattle.std.specs.Prelude.{decimal}
use Rattle.std.specs.Int.{IsInRange}
use Rattle.std.specs.Str.Parse.{AllDigits}
use Rattle.std.proofs.lemmas.Str.Parse.{digit_at}
use Rattle.std.proofs.lemmas.Fmt.{decimal_is_IsNumeral, decimal_injective, length-decimal-le}
use Rattle.std.proofs.lemmas.List.{map-id}
use Rattle.wf_model.specs.Lists.{IsIn, AllDiffer, numbers_from}
use Rattle.wf_model.specs.WellFormed.{IsShortName}
use Rattle.wf_model.specs.Run.{IsNameByte}
use Rattle.wf_model.proofs.Lists.{in_at, at_is, at_below, in_append_cases, in_map_from, in_flat_map_from}
use Rattle.name_text.proofs.Cuts.{one_cut}
use Rattle.label_model.proofs.Differing.{numbers_differ, differ-append, differ_map}
use Rattle.words_model.specs.Lifting.{port_name, lifted_names}
use Rattle.words_model.proofs.States.{are_states, in_states_from}

-- each byte of a numeral is a digit
digit_in : (ds : List ℕ) (b : ℕ) → AllDigits 10 ds → IsIn b ds → IsInRange 48 57 b
digit_in ds b all h = let k = in_at b ds h in subst (IsInRange 48 57) (at_is b k.0 ds 0 k.1) (digit_at ds k.0 all (at_below b k.0 ds k.1))

small : (n : ℕ) → n < 64 → n < 2 ^ 64
small n h = omega arith

number_byte : (n b : ℕ) → n < 64 → IsIn b (decimal n) → IsInRange 48 57 b
number_byte n b h q = digit_in (decimal n) b (decimal_is_IsNumeral n (small n h)).0.1 q

no_dash : (n : ℕ) → n < 64 → IsIn 45 (decimal n) → ⊥
no_dash n h q = let z = number_byte n 45 h q in absurd (omega arith)

-- a name tells its letter, its port and its state
name_tells : (c c2 p p2 s s2 : ℕ) → p < 64 → p2 < 64 → s < 64 → s2 < 64 → port_name c p s ≡ port_name c2 p2 s2 → (c ≡ c2) × (p ≡ p2) × (s ≡ s2)
name_tells c c2 p p2 s s2 hp hp2 hs hs2 e =
    let tail : decimal p ++ 45 ∷ decimal s ≡ decimal p2 ++ 45 ∷ decimal s2 = cc in
    let r = one_cut 45 (decimal p) (decimal s) (decimal p2) (decimal s2) (no_dash p hp) (no_dash p2 hp2) tail in
    ((let q : c ≡ c2 = cc in q), decimal_injective p p2 (small p hp) (small p2 hp2) r.0, decimal_injective s s2 (small s hs) (small s2 hs2) r.1)

-- what a function makes of two numbers differs where it tells both
differ_by_two : (f : ℕ → ℕ → List ℕ) (ps ss : List ℕ) → ((p q s t : ℕ) → IsIn p ps → IsIn q ps → IsIn s ss → IsIn t ss → f p s ≡ f q t → (p ≡ q) × (s ≡ t)) → AllDiffer ps → AllDiffer ss → AllDiffer (flat_map (λ p. map (f p) ss) ps)
differ_by_two f [] ss h d e = tt
differ_by_two f (p ∷ ps) ss h d e =
    differ-append (map (f p) ss) (flat_map (λ p. map (f p) ss) ps) (differ_map (λ s. s) (f p) ss (subst AllDiffer (sym (map-id ss)) e) (λ s t a b q. (h p p s t (inl refl) (inl refl) a b q).1))
    (differ_by_two f ps ss (λ p q s t a b. h p q s t (inr a) (inr b)) d.1 e)
    (λ n a b.
    let x = in_map_from (f p) n ss a in
    let y = in_flat_map_from (λ p. map (f p) ss) n ps b in
    let z = in_map_from (f y.0) n ss y.2 in
    let q = h p y.0 x.0 z.0 (inl refl) (inr y.1) x.1 z.1 (sym x.2 ∙ z.2) in
    d.0 (subst (λ w. IsIn w ps) (sym q.0) y.1))

module _ (k : ℕ) (hk : k ≤ 64) where
  -- the name of one of n ports in one of the states
  abbrev pub IsPortName : ℕ → ℕ → List ℕ → Type 0
  IsPortName letter n name = (p : ℕ) × (s : ℕ) × (p < n) × (s < k) × (name ≡ port_name letter p s)

  pub name_from : (letter n : ℕ) (name : List ℕ) → IsIn name (lifted_names letter k n) → IsPortName letter n name
  name_from letter n name h =
      let r = in_states_from (λ s p. port_name letter p s) k name (numbers_from 0 n) h in
      (r.0, r.1, (are_states n r.0).0 r.3, r.2, r.4)

  pub names_differ : (letter n : ℕ) → n ≤ 64 → AllDiffer (lifted_names letter k n)
  names_differ letter n hn =
      differ_by_two (port_name letter) (numbers_from 0 n) (numbers_from 0 k)
      (λ p q s t a b c d e. let hp = (are_states n p).0 a in let hq = (are_states n q).0 b in let hs = (are_states k s).0 c in let ht = (are_states k t).0 d in
      let r = name_tells letter letter p q s t (omega arith) (omega arith) (omega arith) (omega arith) e in (r.1, r.2))
      (numbers_differ 0 n) (numbers_differ 0 k)

  -- names of one side are none of the other
  pub names_apart : (letter other n m : ℕ) → (letter ≡ other → ⊥) → n ≤ 64 → m ≤ 64 → (name : List ℕ) → IsPortName letter n name → IsPortName other m name → ⊥
  names_apart letter other n m far hn hm name x y =
      let hp : x.0 < n = x.2 in let hs : x.1 < k = x.3 in let hq : y.0 < m = y.2 in let ht : y.1 < k = y.3 in
      far (name_tells letter other x.0 y.0 x.1 y.1 (omega arith) (omega arith) (omega arith) (omega arith) (sym x.4 ∙ y.4)).0

  pub short_name : (letter n : ℕ) → 97 ≤ letter → letter ≤ 122 → n ≤ 64 → (name : List ℕ) → IsPortName letter n name → IsShortName name
  short_name letter n la lb hn name q =
      let p = q.0 in
      let s = q.1 in
      let hp : p < 64 = let z : q.0 < n = q.2 in omega arith in
      let hs : s < 64 = let z : q.1 < k = q.3 in omega arith in
      let lp : length (decimal p) ≤ 2 = length-decimal-le 2 p (omega arith) (omega arith) (small p hp) in
      let ls : length (decimal s) ≤ 2 = length-decimal-le 2 s (omega arith) (omega arith) (small s hs) in
      let len : length (port_name letter p s) ≡ suc (length (decimal p) + suc (length (decimal s))) = ap suc (length-append (decimal p) (45 ∷ decimal s)) in
      subst IsShortName (sym q.4) (
      ((omega arith, λ b h. bytes p s hp hs b h), omega arith))
    where
      bytes : (p s : ℕ) → p < 64 → s < 64 → (b : ℕ) → IsIn b (port_name letter p s) → IsNameByte b
      bytes p s hp hs b (inl e) = inl (omega arith, omega arith)
      bytes p s hp hs b (inr h) =
          ⊎_elim (λ a. inr (inr (inl (number_byte p b hp a))))
          (λ a. ⊎_elim (λ e. inr (inr (inr (inr e)))) (λ e. inr (inr (inl (number_byte s b hs e)))) a)
          (in_append_cases b (decimal p) (45 ∷ decimal s) h)

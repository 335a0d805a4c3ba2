-- Names made of a letter and a number are names, and different numbers have different ones.
use Rattle.std.proofs.Common.{◌≡◌, ℕ, ◌+◌, ◌<◌, ◌≤◌, ◌^◌, List, [], ◌∷◌, ◌++◌, map, drop, codes, refl, subst, sym, ap, inl, inr, ⊎_elim, arith}
use Rattle.wf_model.specs.Lists.{IsIn, AllDiffer, numbers_from}
use Rattle.wf_model.specs.WellFormed.{IsShortName}
use Rattle.wf_model.proofs.Lists.{in_map_from}
use Rattle.wf_model.proofs.Level.{in_numbers}
use Rattle.label_model.proofs.Differing.{numbers_differ}
use Rattle.numbered_names.specs.Names.{numbered_name}
use Rattle.numbered_names.proofs.Numbered.{name_good as instance_name_good, name_same as instance_name_same}
use Rattle.package_model.specs.Packages.{numbered, numbered_names}

pub below_64_bits : (n : ℕ) → n < 1024 → n < 2 ^ 64
below_64_bits n h = omega arith

pub name_good : (letter k : ℕ) → 97 ≤ letter → letter ≤ 122 → k < 1024 → IsShortName (numbered letter k)
name_good letter k la lb hk =
    let r : IsShortName (numbered_name k) = instance_name_good k (below_64_bits k hk) in
    ((omega arith, λ b h. ⊎_elim (λ (e : b ≡ letter). inl (omega arith, omega arith)) (λ q. r.0.1 b (inr q)) h), r.1)

pub name_same : (letter k j : ℕ) → k < 1024 → j < 1024 → numbered letter k ≡ numbered letter j → k ≡ j
name_same letter k j hk hj e = instance_name_same k j (below_64_bits k hk) (below_64_bits j hj) (ap (λ l. codes "n" ++ drop 1 l) e)

numbered_differ : (letter : ℕ) (xs : List ℕ) → ((x : ℕ) → IsIn x xs → x < 1024) → AllDiffer xs → AllDiffer (map (numbered letter) xs)
numbered_differ letter [] h d = tt
numbered_differ letter (x ∷ xs) h d = (
  (λ q. let r = in_map_from (numbered letter) (numbered letter x) xs q in d.0 (subst (λ z. IsIn z xs) (sym (name_same letter x r.0 (h x (inl refl)) (h r.0 (inr r.1)) r.2)) r.1)),
  numbered_differ letter xs (λ y a. h y (inr a)) d.1,
)

pub names_differ : (letter c n : ℕ) → c + n ≤ 1024 → AllDiffer (map (numbered letter) (numbers_from c n))
names_differ letter c n h = numbered_differ letter (numbers_from c n) (λ x i. let a : x < c + n = in_numbers x c n i in omega arith) (numbers_differ c n)

-- a name of a list is that of a number in its range
pub name_from : (letter n : ℕ) (name : List ℕ) → IsIn name (numbered_names letter n) → (k : ℕ) × (k < n) × (name ≡ numbered letter k)
name_from letter n name h = let r = in_map_from (numbered letter) name (numbers_from 0 n) h in let l : r.0 < 0 + n = in_numbers r.0 0 n r.1 in (r.0, omega arith, r.2)

-- What stands at the front of bytes: bytes of names, and the name of an item.
use Rattle.std.proofs.Common.{◌≡◌, ◌↔◌, ℕ, ◌-◌, ◌&&◌, ◌==◌, Bool, true, false, List, [], ◌∷◌, ◌++◌, length, take, drop, get_or, refl, sym, ap, ap₂, ◌∙◌, subst, inl, inr, arith, append_assoc, append-nil, length-append, true≢false}
use Rattle.std.specs.Prelude.{nat_le, nat_lt}
use Rattle.std.specs.List.{list_all}
use Rattle.std.proofs.Math.Seq.{take-append_seam}
use Rattle.std.proofs.lemmas.List.{get_or-drop}
use Rattle.std.proofs.lemmas.Bool.{and_from}
use Rattle.std.proofs.lemmas.Bool.Decides.{nat_tests}
use Rattle.std.proofs.lemmas.List.Folds.{list_all-append}
use Rattle.wf_model.specs.Run.{IsNameByte}
use Rattle.wf_model.specs.WellFormed.{IsShortName}
use Rattle.wf_model.specs.Faults.{is_name_byte}
use Rattle.wf_model.specs.Items.{IsItemName, IsNameOf, dotted}
use Rattle.wf_model.proofs.Tests.{and_left, and_right}
use Rattle.wf_model.proofs.Taking.{short_gives, short_from}
use Rattle.wf_model.proofs.ItemNames.{dotted_at}
use Rattle.name_text.specs.Fronts.{BeginsOtherwise, HasItemFirst}

-- whether there are 1 to 64
abbrev pub is_sized : List ℕ → Bool
is_sized n = nat_lt 0 (length n) && nat_le (length n) 64

-- the test of a byte and its meaning
name_told : (b : ℕ) → (is_name_byte b ≡ true) ↔ IsNameByte b
name_told b = (
  λ e. (short_gives (b ∷ []) (and_from (is_sized (b ∷ [])) (is_name_byte b && true) refl (and_from (is_name_byte b) true e refl))).0.1 b (inl refl),
  λ h. and_left (is_name_byte b) true (and_right (is_sized (b ∷ [])) (is_name_byte b && true) (short_from (b ∷ []) (omega arith, λ x i. elim i [ inl e ↦ subst IsNameByte (sym e) h | inr n ↦ absurd n ]) (omega arith))),
)

-- behind a place where no byte of a name stands
pub otherwise_at : (bytes : List ℕ) (n : ℕ) → is_name_byte (get_or bytes n 0) ≡ false → BeginsOtherwise (drop n bytes)
otherwise_at bytes n f b behind e h =
    let is : get_or bytes n 0 ≡ b = ap (λ k. get_or bytes k 0) (omega arith) ∙ (sym (get_or-drop n bytes 0 0) ∙ ap (λ z. get_or z 0 0) e) in
    true≢false (sym ((name_told b).1 h) ∙ (ap is_name_byte (sym is) ∙ f))

pub otherwise_nil : BeginsOtherwise []
otherwise_nil b behind e h = absurd (cc)

dot_otherwise : (behind : List ℕ) → BeginsOtherwise (46 ∷ behind)
dot_otherwise behind b rest e h = let is : b ≡ 46 = cc in let f : is_name_byte 46 ≡ false = refl in true≢false (sym ((name_told b).1 h) ∙ (ap is_name_byte is ∙ f))

pub space_otherwise : (behind : List ℕ) → BeginsOtherwise (32 ∷ behind)
space_otherwise behind b rest e h = let is : b ≡ 32 = cc in let f : is_name_byte 32 ≡ false = refl in true≢false (sym ((name_told b).1 h) ∙ (ap is_name_byte is ∙ f))

-- the bytes of names at the front are so many in one way
pub one_front : (a x b y : List ℕ) → list_all is_name_byte a ≡ true → BeginsOtherwise x → list_all is_name_byte b ≡ true → BeginsOtherwise y → a ++ x ≡ b ++ y → (a ≡ b) × (x ≡ y)
one_front [] x [] y p q r s e = (refl, e)
one_front [] x (h ∷ b) y p q r s e = absurd (q h (b ++ y) e ((name_told h).0 (and_left (is_name_byte h) (list_all is_name_byte b) r)))
one_front (h ∷ a) x [] y p q r s e = absurd (s h (a ++ x) (sym e) ((name_told h).0 (and_left (is_name_byte h) (list_all is_name_byte a) p)))
one_front (h ∷ a) x (k ∷ b) y p q r s e =
    let first : h ≡ k = cc in
    let others : a ++ x ≡ b ++ y = cc in
    let rest = one_front a x b y (and_right (is_name_byte h) (list_all is_name_byte a) p) q (and_right (is_name_byte k) (list_all is_name_byte b) r) s others in
    (ap (λ z. z ∷ a) first ∙ ap (λ z. k ∷ z) rest.0, rest.1)

spread : (a b c : List ℕ) → dotted a b ++ c ≡ a ++ 46 ∷ (b ++ c)
spread a b c = ap (λ z. z ++ c) (dotted_at a b) ∙ append_assoc a (46 ∷ b) c

short_names : (n : List ℕ) → IsShortName n → list_all is_name_byte n ≡ true
short_names n s = and_right (is_sized n) (list_all is_name_byte n) (short_from n s.0 s.1)

pub short_sized : (n : List ℕ) → IsShortName n → is_sized n ≡ true
short_sized n s = and_left (is_sized n) (list_all is_name_byte n) (short_from n s.0 s.1)

-- the name of an item, from its parts
pub item_first : (bytes a behind after b rest : List ℕ) → bytes ≡ a ++ behind → list_all is_name_byte a ≡ true → behind ≡ 46 ∷ after → after ≡ b ++ rest → list_all is_name_byte b ≡ true → BeginsOtherwise rest → is_sized a ≡ true → is_sized b ≡ true → HasItemFirst bytes a b rest
item_first bytes a behind after b rest w p d v q ends s t = record {
  is = w ∙ (ap (λ z. a ++ z) (d ∙ ap (λ z. 46 ∷ z) v) ∙ sym (spread a b rest));
  instance_short = short_gives a (and_from (is_sized a) (list_all is_name_byte a) s p);
  port_short = short_gives b (and_from (is_sized b) (list_all is_name_byte b) t q);
  ends = ends;
}

-- the bytes of names at the front are the name of its instance
pub instance_first : (bytes a behind i p rest : List ℕ) → bytes ≡ a ++ behind → list_all is_name_byte a ≡ true → BeginsOtherwise behind → HasItemFirst bytes i p rest → (a ≡ i) × (behind ≡ 46 ∷ (p ++ rest))
instance_first bytes a behind i p rest w names ends h = one_front a behind i (46 ∷ (p ++ rest)) names ends (short_names i h.instance_short) (dot_otherwise (p ++ rest)) (sym w ∙ (h.is ∙ spread i p rest))

-- and those behind the dot that of its port
pub port_first : (bytes b rest i p behind : List ℕ) → p ++ behind ≡ b ++ rest → list_all is_name_byte b ≡ true → BeginsOtherwise rest → HasItemFirst bytes i p behind → (b ≡ p) × (rest ≡ behind)
port_first bytes b rest i p behind e names ends h = one_front b rest p behind names ends (short_names p h.port_short) h.ends (sym e)

-- the name of an item stands at the front in one way
pub one_first : (bytes a b c i p r : List ℕ) → HasItemFirst bytes a b c → HasItemFirst bytes i p r → (a ≡ i) × (b ≡ p) × (c ≡ r)
one_first bytes a b c i p r h k =
    let first = instance_first bytes a (46 ∷ (b ++ c)) i p r (h.is ∙ spread a b c) (short_names a h.instance_short) (dot_otherwise (b ++ c)) k in
    let behind = first.1 in
    let second = port_first bytes b c i p r (sym (the_rest (b ++ c) (p ++ r) behind)) (short_names b h.port_short) h.ends k in
    (first.0, second.0, second.1)
  where
    the_rest : (x y : List ℕ) → 46 ∷ x ≡ 46 ∷ y → x ≡ y
    the_rest x y e = cc

-- the name of an item is at its own front, and nothing behind it
pub whole_first : (name a b : List ℕ) → IsNameOf name a b → HasItemFirst name a b []
whole_first name a b h = record { is = h.0 ∙ sym (append-nil (dotted a b)); instance_short = h.1; port_short = h.2; ends = otherwise_nil }

pub first_whole : (name a b rest : List ℕ) → HasItemFirst name a b rest → rest ≡ [] → IsNameOf name a b
first_whole name a b rest h e = (h.is ∙ (ap (λ z. dotted a b ++ z) e ∙ append-nil (dotted a b)), h.instance_short, h.port_short)

and_false : (x : Bool) → (x && false) ≡ false
and_false true = refl
and_false false = refl

not_nil : (x : ℕ) (xs : List ℕ) → (length (x ∷ xs) == 0) ≡ false
not_nil x xs = grind (arith, nat_tests)

-- all are bytes of names exactly if nothing stands behind those at the front
pub all_told : (bytes a behind : List ℕ) (r : Bool) → bytes ≡ a ++ behind → list_all is_name_byte a ≡ true → BeginsOtherwise behind → r ≡ (length behind == 0) → r ≡ list_all is_name_byte bytes
all_told bytes a [] r w names ends e = e ∙ (sym names ∙ ap (list_all is_name_byte) (sym (append-nil a) ∙ sym w))
all_told bytes a (b ∷ behind) r w names ends e = (e ∙ not_nil b behind) ∙ sym (ap (list_all is_name_byte) w ∙ (list_all-append is_name_byte a (b ∷ behind) ∙ go (is_name_byte b) refl))
  where
    go : (t : Bool) → is_name_byte b ≡ t → (list_all is_name_byte a && (is_name_byte b && list_all is_name_byte behind)) ≡ false
    go true f = absurd (ends b behind refl ((name_told b).0 f))
    go false f = ap (λ z. list_all is_name_byte a && (z && list_all is_name_byte behind)) f ∙ and_false (list_all is_name_byte a)

-- no name of an item stands at the front where bytes of names end otherwise than by a dot, or are too many or none
module _ (bytes a behind : List ℕ) (w : bytes ≡ a ++ behind) (names : list_all is_name_byte a ≡ true) (ends : BeginsOtherwise behind) where
  pub no_end : length behind ≡ 0 → (i p rest : List ℕ) → HasItemFirst bytes i p rest → ⊥
  no_end e i p rest h = let n = ap length (instance_first bytes a behind i p rest w names ends h).1 in omega (arith, e)

  pub no_dot_first : (b : ℕ) (after : List ℕ) → behind ≡ b ∷ after → (b ≡ 46 → ⊥) → (i p rest : List ℕ) → HasItemFirst bytes i p rest → ⊥
  no_dot_first b after e not i p rest h = let d = (instance_first bytes a behind i p rest w names ends h).1 in not (let same : b ∷ after ≡ 46 ∷ (p ++ rest) = sym e ∙ d in cc)

  pub instance_sized : is_sized a ≡ false → (i p rest : List ℕ) → HasItemFirst bytes i p rest → ⊥
  instance_sized f i p rest h = true≢false (sym (short_sized i h.instance_short) ∙ (ap is_sized (sym (instance_first bytes a behind i p rest w names ends h).0) ∙ f))

  pub port_sized : (after b over : List ℕ) → behind ≡ 46 ∷ after → after ≡ b ++ over → list_all is_name_byte b ≡ true → BeginsOtherwise over → is_sized b ≡ false → (i p rest : List ℕ) → HasItemFirst bytes i p rest → ⊥
  port_sized after b over d e all none f i p rest h =
      let q : p ++ rest ≡ after = (let same : 46 ∷ after ≡ 46 ∷ (p ++ rest) = sym d ∙ (instance_first bytes a behind i p rest w names ends h).1 in cc) in
      let same = port_first bytes b over i p rest (q ∙ e) all none h in
      true≢false (sym (short_sized p h.port_short) ∙ (ap is_sized (sym same.0) ∙ f))

pub nil_told : (xs : List ℕ) → (length xs == 0) ≡ true → xs ≡ []
nil_told [] e = refl
nil_told (x ∷ xs) e = absurd (grind (arith, nat_tests, e))

-- the bytes before the rest are the name
pub item_cut : (bytes a b rest : List ℕ) → HasItemFirst bytes a b rest → take (length bytes - length rest) bytes ≡ dotted a b
item_cut bytes a b rest h =
    let count : length bytes - length rest ≡ length (dotted a b) = omega (arith, ap length h.is, length-append (dotted a b) rest) in
    ap (take (length bytes - length rest)) h.is ∙ (ap (λ n. take n (dotted a b ++ rest)) count ∙ take-append_seam (dotted a b) rest)

pub of_item : (bytes item rest : List ℕ) → bytes ≡ item ++ rest → (h : IsItemName item) → BeginsOtherwise rest → HasItemFirst bytes h.0 h.1 rest
of_item bytes item rest w h ends = record { is = w ∙ ap (λ z. z ++ rest) h.2.0; instance_short = h.2.1; port_short = h.2.2; ends = ends }

-- bytes are cut behind an item's name in one way
pub one_item : (bytes a x b y : List ℕ) → bytes ≡ a ++ x → IsItemName a → BeginsOtherwise x → bytes ≡ b ++ y → IsItemName b → BeginsOtherwise y → (a ≡ b) × (x ≡ y)
one_item bytes a x b y v h p w k q =
    let same = one_first bytes h.0 h.1 x k.0 k.1 y (of_item bytes a x v h p) (of_item bytes b y w k q) in
    (h.2.0 ∙ (ap₂ dotted same.0 same.1 ∙ sym k.2.0), same.2)

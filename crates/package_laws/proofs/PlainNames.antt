-- Names in the text of a grammar: they are plain, and two with a dot between are told apart.
use Rattle.std.proofs.Common.{◌≡◌, ℕ, suc, ◌+◌, ◌<◌, ◌==◌, true, false, cond, not, nat_lt, List, [], ◌∷◌, ◌++◌, length, take, drop, Some, None, option_map, refl, sym, ap, ap₂, ◌∙◌, subst, inl, inr, arith, codes}
use Rattle.std.specs.List.{position_or_len}
use Rattle.std.proofs.Math.Seq.{take-append_seam, drop-append-add}
use Rattle.std.proofs.lemmas.Bool.{and_parts, and_from, lt-ltb, ne_eqb}
use Rattle.std.proofs.lemmas.List.{length-append}
use Rattle.std.proofs.lemmas.List.Folds.{list_all-append}
use Rattle.wf_model.specs.Lists.{IsIn}
use Rattle.wf_model.specs.declared.event.Event.TheVariants.{Start}
use Rattle.wf_model.specs.Run.{IsName, IsNameByte}
use Rattle.wf_model.specs.Items.{dotted}
use Rattle.wf_model.specs.declared.parts.PortPart.{PortPart}
use Rattle.wf_model.proofs.ItemNames.{dotted_at}
use Rattle.wf_json.specs.Forms.{port_of}
use Rattle.wf_events.specs.Plain.{is_plain, is_plain_text}
use Rattle.wf_events.proofs.PlainTexts.{event_plain}

-- a name is plain
pub name_plain : (n : List ℕ) → IsName n → is_plain_text n ≡ true
name_plain n h =
    let all = event_plain (Start n) (record { names = λ m i. name_there m i; number = omega arith }) in
    (and_parts (is_plain_text n) true all.0).0
  where
    name_there : (m : List ℕ) → IsIn m (n ∷ []) → IsName m
    name_there m (inl e) = subst IsName (sym e) h
    name_there m (inr i) = absurd i

-- so are two with a dot between
pub dotted_plain : (a b : List ℕ) → IsName a → IsName b → is_plain_text (dotted a b) ≡ true
dotted_plain a b ha hb =
    ap is_plain_text (dotted_at a b)
    ∙ (list_all-append is_plain a (codes "." ++ b) ∙ and_from (is_plain_text a) (is_plain_text (codes "." ++ b)) (name_plain a ha) (name_plain b hb))

no_dot : (b : ℕ) → IsNameByte b → (b == 46) ≡ false
no_dot b (inl h) = ne_eqb b 46 (λ e. omega (arith, h, e))
no_dot b (inr (inl h)) = ne_eqb b 46 (λ e. omega (arith, h, e))
no_dot b (inr (inr (inl h))) = ne_eqb b 46 (λ e. omega (arith, h, e))
no_dot b (inr (inr (inr (inl h)))) = ne_eqb b 46 (λ e. omega (arith, h, e))
no_dot b (inr (inr (inr (inr h)))) = ne_eqb b 46 (λ e. omega (arith, h, e))

-- the first dot stands behind a name
dot_behind : (a b : List ℕ) → ((x : ℕ) → IsIn x a → IsNameByte x) → position_or_len (λ x. x == 46) (a ++ 46 ∷ b) ≡ length a
dot_behind [] b h = refl
dot_behind (x ∷ a) b h =
    let rest = dot_behind a b (λ y i. h y (inr i)) in
    let more : 1 + position_or_len (λ y. y == 46) (a ++ 46 ∷ b) ≡ suc (length a) = omega (arith, rest) in
    ap (λ t. cond {A = ℕ} (not t) (1 + position_or_len (λ y. y == 46) (a ++ 46 ∷ b)) 0) (no_dot x (h x (inl refl))) ∙ more

-- two names with a dot between are told apart
pub dotted_said : (a b : List ℕ) → IsName a → port_of (dotted a b) ≡ Some (record { pos = a; port = b })
dotted_said a b h =
    let long : length a < length whole = let e = length-append a (46 ∷ b) in omega (arith, e) in
    ap port_of (dotted_at a b)
    ∙ (ap (λ k. option_map parted (cond (nat_lt k (length whole)) (Some k) None)) (dot_behind a b h.1)
    ∙ (ap (λ t. option_map parted (cond t (Some (length a)) None)) (lt-ltb (length a) (length whole) long)
    ∙ ap₂ (λ (x y : List ℕ). Some (record { pos = x; port = y })) (take-append_seam a (46 ∷ b)) (drop-append-add a (46 ∷ b) 1)))
  where
    whole : List ℕ
    whole = a ++ 46 ∷ b

    parted : ℕ → PortPart
    parted i = record { pos = take i whole; port = drop (i + 1) whole }

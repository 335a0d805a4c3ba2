-- Texts that stand in JSON as they are.
use Rattle.std.proofs.Common.{◌≡◌, ℕ, ◌<◌, ◌≤◌, true, not, ◌&&◌, ◌==◌, nat_le, List, [], ◌∷◌, ◌++◌, IsUtf8, refl, ap, ap₂, inl, inr, arith, codes}
use Rattle.std.proofs.lemmas.Bool.{and_parts, and_from, not-true, not_from_false, leb-true, le-leb, lt-ltb, eqb-false, ne_eqb}
use Rattle.std.proofs.lemmas.Str.{IsUtf8-append}
use Rattle.std.specs.List.{list_all}
use Rattle.json.specs.Print.{escape, quoted}
use Rattle.json.proofs.Printed.Strings.{escape_byte_plain}
use Rattle.json.proofs.Printed.Utf8.{are_ascii, IsUtf8-are_ascii}
use Rattle.wf_model.specs.declared.event.Event.{Event}
use Rattle.wf_model.specs.Lists.{IsIn}
use Rattle.wf_model.specs.Run.{IsNameByte, IsName}
use Rattle.wf_json.specs.Canonical.{text_in_quotes}
use Rattle.wf_events.specs.Spelling.{names_in, HasNames}
use Rattle.wf_events.specs.Plain.{is_plain, is_plain_text, IsPlain}

plain_byte : (b : ℕ) → is_plain b ≡ true → (32 ≤ b) × (b < 128) × (b ≡ 34 → ⊥) × (b ≡ 92 → ⊥)
plain_byte b e =
    let p = and_parts (nat_le 32 b && nat_le b 126 && not (b == 34)) (not (b == 92)) e in
    let q = and_parts (nat_le 32 b && nat_le b 126) (not (b == 34)) p.0 in
    let r = and_parts (nat_le 32 b) (nat_le b 126) q.0 in
    (leb-true 32 b r.0, omega (arith, leb-true b 126 r.1), eqb-false b 34 (not-true _ q.1), eqb-false b 92 (not-true _ p.1))

byte_plain : (b : ℕ) → 32 ≤ b → b ≤ 126 → (b ≡ 34 → ⊥) → (b ≡ 92 → ⊥) → is_plain b ≡ true
byte_plain b low high quote backslash =
    and_from _ _ (and_from _ _ (and_from _ _ (le-leb 32 b low) (le-leb b 126 high)) (not_from_false _ (ne_eqb b 34 quote))) (not_from_false _ (ne_eqb b 92 backslash))

name_byte_plain : (b : ℕ) → IsNameByte b → is_plain b ≡ true
name_byte_plain b (inl h) = byte_plain b (omega (arith, h)) (omega (arith, h)) (λ e. omega (arith, h, e)) (λ e. omega (arith, h, e))
name_byte_plain b (inr (inl h)) = byte_plain b (omega (arith, h)) (omega (arith, h)) (λ e. omega (arith, h, e)) (λ e. omega (arith, h, e))
name_byte_plain b (inr (inr (inl h))) = byte_plain b (omega (arith, h)) (omega (arith, h)) (λ e. omega (arith, h, e)) (λ e. omega (arith, h, e))
name_byte_plain b (inr (inr (inr (inl h)))) = byte_plain b (omega (arith, h)) (omega (arith, h)) (λ e. omega (arith, h, e)) (λ e. omega (arith, h, e))
name_byte_plain b (inr (inr (inr (inr h)))) = byte_plain b (omega (arith, h)) (omega (arith, h)) (λ e. omega (arith, h, e)) (λ e. omega (arith, h, e))

bytes_plain : (t : List ℕ) → ((b : ℕ) → IsIn b t → IsNameByte b) → is_plain_text t ≡ true
bytes_plain [] h = refl
bytes_plain (b ∷ t) h = and_from _ _ (name_byte_plain b (h b (inl refl))) (bytes_plain t (λ c i. h c (inr i)))

names_plain : (ns : List (List ℕ)) → ((n : List ℕ) → IsIn n ns → IsName n) → list_all is_plain_text ns ≡ true
names_plain [] h = refl
names_plain (n ∷ ns) h = and_from _ _ (bytes_plain n (h n (inl refl)).1) (names_plain ns (λ m i. h m (inr i)))

-- an event whose names are names has plain ones
pub event_plain : (e : Event) → HasNames e → IsPlain e
event_plain e h = (names_plain (names_in e) h.names, h.number)

escape_plain : (t : List ℕ) → is_plain_text t ≡ true → escape t ≡ t
escape_plain [] e = refl
escape_plain (b ∷ t) e =
    let p = and_parts (is_plain b) (list_all is_plain t) e in
    let h = plain_byte b p.0 in
    ap₂ (λ (x y : List ℕ). x ++ y) (escape_byte_plain b h.2 h.3 h.0) (escape_plain t p.1)

-- JSON spells a plain text as it is
pub quoted_plain : (t : List ℕ) → is_plain_text t ≡ true → quoted t ≡ text_in_quotes t
quoted_plain t e = ap (λ s. 34 ∷ (s ++ 34 ∷ [])) (escape_plain t e)

ascii_plain : (t : List ℕ) → is_plain_text t ≡ true → are_ascii t ≡ true
ascii_plain [] e = refl
ascii_plain (b ∷ t) e = let p = and_parts (is_plain b) (list_all is_plain t) e in and_from _ _ (lt-ltb b 128 (plain_byte b p.0).1) (ascii_plain t p.1)

-- a plain text in quotes is UTF-8
pub IsUtf8-text_in_quotes : (t : List ℕ) → is_plain_text t ≡ true → IsUtf8 (text_in_quotes t)
IsUtf8-text_in_quotes t e =
    IsUtf8-append (codes "\"") (t ++ codes "\"") (IsUtf8-are_ascii (codes "\"") refl) (IsUtf8-append t (codes "\"") (IsUtf8-are_ascii t (ascii_plain t e)) (IsUtf8-are_ascii (codes "\"") refl))

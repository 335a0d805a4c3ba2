-- Lists that are held in one form and seen in another.
use Rattle.std.proofs.Common.{◌≡◌, ℕ, ◌<◌, List, map, length, get_or, sym, ap, subst, ◌∙◌, arith}
use Rattle.std.specs.List.{zip}
use Rattle.std.proofs.Math.ListN.{get_or-map as get_or-map_same}
use Rattle.std.proofs.lemmas.List.{get_or-map, get_or_default, length-map}
use Rattle.std.proofs.lemmas.Slice.Zip.{get_or-zip, seconds-zip}
use Rattle.wf_model.specs.Lists.{IsIn}
use Rattle.wf_model.proofs.Lists.{in_map}
use Rattle.wf_spec.proofs.Tables.{get_in}

-- an element that is read is the one of this number
pub read_at : {A : Type 0} (xs ys : List A) (k : ℕ) (x d : A) → xs ≡ ys → x ≡ get_or xs k x → k < length ys → x ≡ get_or ys k d
read_at xs ys k x d same was inside = was ∙ ap (λ l. get_or l k x) same ∙ get_or_default ys k x d inside

-- an element that is read is seen at the same place
pub seen_at : {A B : Type 0} (f : A → B) (held : List A) (xs : List B) (k : ℕ) (a : A) (d : B) → map f held ≡ xs → a ≡ get_or held k a → k < length xs → get_or xs k d ≡ f a
seen_at f held xs k a d seen was inside =
    let below : k < length held = omega (arith, ap length seen, length-map held f) in
    ap (λ ys. get_or ys k d) (sym seen) ∙ get_or-map f held k a d below ∙ ap f (sym was)

-- a list has the length that is seen
pub length-seen : {A B : Type 0} (f : A → B) (held : List A) (xs : List B) → map f held ≡ xs → length held ≡ length xs
length-seen f held xs seen = sym (length-map held f) ∙ ap length seen

-- an element that is read is seen as one of the list
pub read_in : {A B : Type 0} (f : A → B) (held : List A) (xs : List B) (k : ℕ) (d : A) → map f held ≡ xs → k < length xs → IsIn (f (get_or held k d)) xs
read_in f held xs k d seen inside =
    let below : k < length held = omega (arith, ap length seen, length-map held f) in
    subst (IsIn (f (get_or held k d))) seen (in_map f _ _ (get_in k held d below))

-- an element that is read is seen as the one of this number
pub read_seen : {A B : Type 0} (f : A → B) (held : List A) (xs : List B) (k : ℕ) (d : A) → map f held ≡ xs → f (get_or held k d) ≡ get_or xs k (f d)
read_seen f held xs k d seen = sym (get_or-map_same f held k d) ∙ ap (λ l. get_or l k (f d)) seen

-- the element of this number of two lists that are taken together
pub together : {A B : Type 0} (xs : List A) (ys : List B) (k : ℕ) (x d : A) (y e : B) → length ys ≡ length xs → k < length ys → x ≡ get_or xs k d → y ≡ get_or ys k e → get_or (zip xs ys) k (d, e) ≡ (x, y)
together xs ys k x d y e same inside first second =
    let inside' : k < length xs = omega arith in
    get_or-zip xs ys k (d, e) inside' inside ∙ ap (λ a. (a, get_or ys k e)) (sym first) ∙ ap (λ b. (x, b)) (sym second)

-- two lists of one length that are taken together have it
pub length-together : {A B : Type 0} (xs : List A) (ys : List B) → length ys ≡ length xs → length ys ≡ length (zip xs ys)
length-together xs ys same = sym (ap length (seconds-zip xs ys same)) ∙ length-map (zip xs ys) (λ (p : _). p.1)

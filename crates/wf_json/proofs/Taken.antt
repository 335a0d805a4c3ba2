-- Texts that were taken piece by piece.
use Rattle.std.proofs.Common.{◌≡◌, List, [], ℕ, sym, ap₂, subst, ◌++◌, OnOk, arith, codes, append_assoc, append-nil}
use Rattle.std.proofs.lemmas.Result.{on_ok_weaker}
use Rattle.std.specs.declared.result.Result.{Result}
use Rattle.wf_model.specs.Items.{dotted}
use Rattle.wf_json.specs.Canonical.{text_in_quotes, pair_text}
use Rattle.wf_json.specs.Writing.{Takes}

-- no piece was taken
pub none_taken : {S : Type 0} (holds : S → List ℕ → Type 0) (a : S) → Takes holds a a []
none_taken holds a = record { taken = λ text h. subst (holds a) (sym (append-nil text)) h }

-- a piece that was taken behind another was taken with it
pub behind : {S : Type 0} {holds : S → List ℕ → Type 0} {a b c : S} {s t : List ℕ} → Takes holds a b s → Takes holds b c t → Takes holds a c (s ++ t)
behind {holds = holds} {c = c} {s = s} {t = t} p q = record { taken = λ text h. subst (holds c) (append_assoc text s t) (q.taken (text ++ s) (p.taken text h)) }

-- so was a last piece, where it was taken
pub last_behind : {S E : Type 0} {holds : S → List ℕ → Type 0} {a b : S} {s : List ℕ} (r : Result (Unit {0}) E) (c : S) (t : List ℕ) → Takes holds a b s → OnOk r (Takes holds b c t) → OnOk r (Takes holds a c (s ++ t))
last_behind r c t p q = on_ok_weaker r (behind p) q

-- a piece that was taken under another name
pub renamed : {S : Type 0} {holds : S → List ℕ → Type 0} {a b : S} {s t : List ℕ} → s ≡ t → Takes holds a b s → Takes holds a b t
renamed {holds = holds} {a = a} {b = b} same p = subst (Takes holds a b) same p

-- a dotted name that was taken by other names of its parts
pub named : {S E : Type 0} {p q position port : List ℕ} (holds : S → List ℕ → Type 0) (a b : S) (r : Result (Unit {0}) E) → p ≡ position → q ≡ port → OnOk r (Takes holds a b (dotted p q)) → OnOk r (Takes holds a b (dotted position port))
named holds a b r first second taken = on_ok_weaker r (renamed (ap₂ dotted first second)) taken

quoted_pair : (s t : List ℕ) → ((((codes "[\"" ++ s) ++ codes "\",\"") ++ t) ++ codes "\"]") ≡ pair_text (text_in_quotes s) (text_in_quotes t)
quoted_pair s t = grind (arith, append_assoc {A = ℕ})

-- two texts that were taken in quotes and brackets with a comma between
pub paired : {S E : Type 0} {holds : S → List ℕ → Type 0} {a b c d e : S} {s t : List ℕ} (f : S) (r : Result (Unit {0}) E) → Takes holds a b (codes "[\"") → Takes holds b c s → Takes holds c d (codes "\",\"") → Takes holds d e t
    → OnOk r (Takes holds e f (codes "\"]")) → OnOk r (Takes holds a f (pair_text (text_in_quotes s) (text_in_quotes t)))
paired {s = s} {t = t} f r opened first parted second closed =
    on_ok_weaker r (λ last. renamed (quoted_pair s t) (behind (behind (behind (behind opened first) parted) second) last)) closed

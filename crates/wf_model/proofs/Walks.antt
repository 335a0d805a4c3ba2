-- Walks along a relation, and walks in a graph of one level with parts below it.
use Rattle.std.proofs.Common.{◌≡◌, ℕ, ◌⊎◌, refl, sym, ◌∙◌, subst, inl, inr, ⊎_elim}
use Rattle.wf_model.specs.Lists.{Walk, here, onward}

pub walk-append : {A : Type 0} {R : A → A → Type 0} {x y z : A} → Walk R x y → Walk R y z → Walk R x z
walk-append here w = w
walk-append (onward r v) w = onward r (walk-append v w)

pub walk_one : {A : Type 0} {R : A → A → Type 0} {x y : A} → R x y → Walk R x y
walk_one r = onward r here

-- each step of a walk is a walk along another relation, between the images
pub walk_through : {A B : Type 0} {R : A → A → Type 0} {S : B → B → Type 0} (f : A → B) → ((x y : A) → R x y → Walk S (f x) (f y)) → {x y : A} → Walk R x y → Walk S (f x) (f y)
walk_through f h here = here
walk_through f h (onward {x = x} {y = y} r w) = walk-append (h x y r) (walk_through f h w)

-- one level: points A with steps W between them, which f puts among all points B, and parts, each with points of its own and steps between these
pub record IsLevel {A B : Type 0} (W : A → A → Type 0) (f : A → B) (C : ℕ → B → B → Type 0) (Point : A → Type 0) (Own : ℕ → B → Type 0) (In Out : ℕ → A → Type 0) : Type 0 where
  pub same : (u v : A) → Point u → Point v → f u ≡ f v → u ≡ v
  pub begins : (u v : A) → W u v → Point u
  pub ends : (u v : A) → W u v → Point v
  pub apart : (k j : ℕ) (x : B) → Own k x → Own j x → k ≡ j
  pub from_own : (k : ℕ) (x y : B) → C k x y → Own k x
  pub to_own : (k : ℕ) (x y : B) → C k x y → Own k y
  pub enters : (k : ℕ) (u v : A) → W u v → Own k (f v) → In k v
  pub leaves : (k : ℕ) (u v : A) → W u v → Own k (f u) → Out k u

-- a step of the whole: one of the level, or one within a part
abbrev pub Whole : {A B : Type 0} → (A → A → Type 0) → (A → B) → (ℕ → B → B → Type 0) → B → B → Type 0
Whole {A} W f C x y = ((u : A) × (v : A) × (f u ≡ x) × (f v ≡ y) × W u v) ⊎ ((k : ℕ) × C k x y)

-- a step of the level, or a passage through a part from one of its entrances to one of its ways out
abbrev pub Short : {A B : Type 0} → (A → A → Type 0) → (A → B) → (ℕ → B → B → Type 0) → (ℕ → A → Type 0) → (ℕ → A → Type 0) → A → A → Type 0
Short W f C In Out u v = W u v ⊎ ((k : ℕ) × In k u × Out k v × Walk (C k) (f u) (f v))

module _ {A B : Type 0} (W : A → A → Type 0) (f : A → B) (C : ℕ → B → B → Type 0) (Point : A → Type 0) (Own : ℕ → B → Type 0) (In Out : ℕ → A → Type 0) (level : IsLevel W f C Point Own In Out) where
  mutual
    -- at a point of the level
    outside : {x y : B} → Walk (Whole W f C) x y → (u v : A) → Point u → Point v → f u ≡ x → f v ≡ y → ((k : ℕ) (z : B) → C k x z → In k u) → ((k : ℕ) (z : B) → C k z y → Out k v) → Walk (Short W f C In Out) u v
    outside {x} here u v pu pv eu ev s e = subst (Walk (Short W f C In Out) u) (level.same u v pu pv (eu ∙ sym ev)) here
    outside {x} (onward {y = z} (inl st) w) u v pu pv eu ev s e =
        let d : u ≡ st.0 = level.same u st.0 pu (level.begins st.0 st.1 st.4) (eu ∙ sym st.2) in
        onward (inl (subst (λ a. W a st.1) (sym d) st.4)) (outside w st.1 v (level.ends st.0 st.1 st.4) pv st.3 ev (λ k q c. level.enters k st.0 st.1 st.4 (subst (Own k) (sym st.3) (level.from_own k z q c))) e)
    outside {x} (onward {y = z} (inr st) w) u v pu pv eu ev s e =
        inside w st.0 x st.1 u (s st.0 z st.1) (subst (λ b. Walk (C st.0) b z) (sym eu) (walk_one st.1)) v pv ev e

    -- within a part, entered at u, after a step within it
    inside : {x y : B} → Walk (Whole W f C) x y → (k : ℕ) (before : B) → C k before x → (u : A) → In k u → Walk (C k) (f u) x → (v : A) → Point v → f v ≡ y → ((j : ℕ) (z : B) → C j z y → Out j v) → Walk (Short W f C In Out) u v
    inside {x} here k before c u i so_far v pv ev e =
        walk_one (inr (k, i, e k before c, subst (Walk (C k) (f u)) (sym ev) so_far))
    inside {x} (onward {y = z} (inl st) w) k before c u i so_far v pv ev e =
        let o = level.leaves k st.0 st.1 st.4 (subst (Own k) (sym st.2) (level.to_own k before x c)) in
        onward (inr (k, i, o, subst (Walk (C k) (f u)) (sym st.2) so_far))
        (onward (inl st.4) (outside w st.1 v (level.ends st.0 st.1 st.4) pv st.3 ev (λ j q c. level.enters j st.0 st.1 st.4 (subst (Own j) (sym st.3) (level.from_own j z q c))) e))
    inside {x} (onward {y = z} (inr st) w) k before c u i so_far v pv ev e =
        let d : st.0 ≡ k = level.apart st.0 k x (level.from_own st.0 x z st.1) (level.to_own k before x c) in
        let c' : C k x z = subst (λ j. C j x z) d st.1 in
        inside w k x c' u i (walk-append so_far (walk_one c')) v pv ev e

  -- a walk of the whole between two points of the level, with the passages through the parts as steps
  pub shortened : (u v : A) → Point u → Point v → ((k : ℕ) (z : B) → C k (f u) z → In k u) → ((k : ℕ) (z : B) → C k z (f v) → Out k v) → Walk (Whole W f C) (f u) (f v) → Walk (Short W f C In Out) u v
  shortened u v pu pv s e w = outside w u v pu pv refl refl s e

  -- and back: a passage is a walk of the whole
  pub lengthened : (u v : A) → Walk (Short W f C In Out) u v → Walk (Whole W f C) (f u) (f v)
  lengthened u v w =
      walk_through f
      (λ x y st. ⊎_elim (λ a. walk_one (inl (x, y, refl, refl, a))) (λ b. walk_through (λ z. z) (λ p q c. walk_one (inr (b.0, c))) b.3) st)
      w

  -- a walk from a point of a part stays in it, or goes to a way out and on from there
  pub left_by : (k : ℕ) {x y : B} → Walk (Whole W f C) x y → Own k x → Walk (C k) x y ⊎ ((u : A) × Out k u × Walk (C k) x (f u) × Walk (Whole W f C) (f u) y)
  left_by k here o = inl here
  left_by k {y = y} (onward {x = x} {y = z} (inl st) w) o =
      let out = level.leaves k st.0 st.1 st.4 (subst (Own k) (sym st.2) o) in
      let back : f st.0 ≡ x = st.2 in
      inr (st.0, out, subst (Walk (C k) x) (sym back) here, subst (λ b. Walk (Whole W f C) b y) (sym back) (onward (inl st) w))
  left_by k {y = y} (onward {x = x} {y = z} (inr st) w) o =
      let d : st.0 ≡ k = level.apart st.0 k x (level.from_own st.0 x z st.1) o in
      let c : C k x z = subst (λ j. C j x z) d st.1 in
      ⊎_elim (λ a. inl (onward c a)) (λ b. inr (b.0, b.1, onward c b.2, b.3)) (left_by k w (level.to_own k x z c))

  -- a walk to a point of a part is in it, or comes by an entrance
  pub entered_by : (k : ℕ) {x y : B} → Walk (Whole W f C) x y → Own k y → (Own k x × Walk (C k) x y) ⊎ ((u : A) × In k u × Walk (Whole W f C) x (f u) × Walk (C k) (f u) y)
  entered_by k here o = inl (o, here)
  entered_by k {y = y} (onward {x = x} {y = z} st w) o =
      ⊎_elim
      (λ a. ⊎_elim
      (λ s. let e : f s.1 ≡ z = s.3 in inr (s.1, level.enters k s.0 s.1 s.4 (subst (Own k) (sym e) a.0), walk_one (inl (s.0, s.1, s.2, refl, s.4)), subst (λ b. Walk (C k) b y) (sym e) a.1))
      (λ s. let d : s.0 ≡ k = level.apart s.0 k z (level.to_own s.0 x z s.1) a.0 in
      let c : C k x z = subst (λ j. C j x z) d s.1 in
      inl (level.from_own k x z c, onward c a.1))
      st)
      (λ b. inr (b.0, b.1, onward st b.2, b.3))
      (entered_by k w o)

  -- a walk within a part that begins in it ends in it
  pub stays : (k : ℕ) {x y : B} → Walk (C k) x y → Own k x → Own k y
  stays k here o = o
  stays k (onward {x = x} {y = z} c w) o = stays k w (level.to_own k x z c)

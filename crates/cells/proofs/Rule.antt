-- The laws of the cell rule: without unknowns it is the table's entry, more that is known changes no known answer, and one wire answers as two do.
-- Assumes nothing.
use mathlib.Core.Path.{◌≡◌, refl, sym, ap, ◌∙◌, subst}
use mathlib.Core.List.{List, [], ◌∷◌, ◌++◌, map}
use mathlib.Core.Bool.{Bool, true, false, cond}
use Prim.Native.Nat.{ℕ, zero, suc, ◌+◌, ◌*◌, ◌<◌}
use native.Mathlib.Omega.{arith}
use lib.Dec.{eqb}
use borrow.Author.Tests.{eqb-true, eq-eqb}
use Rattle.laws.specs.Stretches.{All}
use Rattle.laws.proofs.Bits.{bit_small}
use Rattle.laws.proofs.Stretches.{all_append}
use Rattle.cells.specs.Cells.{entry, index_from, fillings, agreed, cell_rule}

-- every number of a list has a property
abbrev pub Each : (ℕ → Type 0) → List ℕ → Type 0
Each = All

each_first : (P : ℕ → Type 0) (s t : List ℕ) → Each P (s ++ t) → Each P s
each_first P [] t h = tt
each_first P (x ∷ s) t h = (h.0, each_first P s t h.1)

each_second : (P : ℕ → Type 0) (s t : List ℕ) → Each P (s ++ t) → Each P t
each_second P [] t h = h
each_second P (x ∷ s) t h = each_second P s t h.1

each_map : (P : ℕ → Type 0) (f : ℕ → ℕ) (l : List ℕ) → Each P (map f l) → Each (λ x. P (f x)) l
each_map P f [] h = tt
each_map P f (x ∷ l) h = (h.0, each_map P f l h.1)

map_each : (P : ℕ → Type 0) (f : ℕ → ℕ) (l : List ℕ) → Each (λ x. P (f x)) l → Each P (map f l)
map_each P f [] h = tt
map_each P f (x ∷ l) h = (h.0, map_each P f l h.1)

-- the second of two lists has what is known in the first
abbrev pub Agree : List ℕ → List ℕ → Type 0
Agree [] [] = Unit
Agree [] (v ∷ vs) = ⊥
Agree (u ∷ us) [] = ⊥
Agree (u ∷ us) (v ∷ vs) = (u < 2 → v ≡ u) × Agree us vs

-- its fillings are among those of the first
narrow : (P : ℕ → Type 0) (k : ℕ) (us vs : List ℕ) → Agree us vs → Each P (fillings k us) → Each P (fillings k vs)
narrow P k [] [] a h = h
narrow P k [] (v ∷ vs) a h = absurd a
narrow P k (u ∷ us) [] a h = absurd a
narrow P k (zero ∷ us) (v ∷ vs) a h =
    let e : v ≡ 0 = a.0 (omega arith) in
    subst (λ (x : ℕ). Each P (fillings k (x ∷ vs))) (sym e) (narrow P (2 * k) us vs a.1 h)
narrow P k (suc zero ∷ us) (v ∷ vs) a h =
    let e : v ≡ 1 = a.0 (omega arith) in
    subst (λ (x : ℕ). Each P (fillings k (x ∷ vs))) (sym e) (narrow P (2 * k + 1) us vs a.1 h)
narrow P k (suc (suc u) ∷ us) (zero ∷ vs) a h = narrow P (2 * k) us vs a.1 (each_first P (fillings (2 * k) us) (fillings (2 * k + 1) us) h)
narrow P k (suc (suc u) ∷ us) (suc zero ∷ vs) a h = narrow P (2 * k + 1) us vs a.1 (each_second P (fillings (2 * k) us) (fillings (2 * k + 1) us) h)
narrow P k (suc (suc u) ∷ us) (suc (suc v) ∷ vs) a h =
    all_append P (fillings (2 * k) vs) (fillings (2 * k + 1) vs)
    (narrow P (2 * k) us vs a.1 (each_first P (fillings (2 * k) us) (fillings (2 * k + 1) us) h))
    (narrow P (2 * k + 1) us vs a.1 (each_second P (fillings (2 * k) us) (fillings (2 * k + 1) us) h))

-- what is agreed on is each one's
agreed-each : (l : List ℕ) → agreed l < 2 → Each (λ x. x ≡ agreed l) l
agreed-each [] h = tt
agreed-each (b ∷ []) h = (refl, tt)
agreed-each (b ∷ c ∷ bs) h = go (eqb b (agreed (c ∷ bs))) refl (agreed-each (c ∷ bs))
  where
    go : (t : Bool) → eqb b (agreed (c ∷ bs)) ≡ t → (agreed (c ∷ bs) < 2 → Each (λ x. x ≡ agreed (c ∷ bs)) (c ∷ bs)) → Each (λ x. x ≡ agreed (b ∷ c ∷ bs)) (b ∷ c ∷ bs)
    go true e below =
        let q : b ≡ agreed (c ∷ bs) = eqb-true b (agreed (c ∷ bs)) e in
        let z : cond (eqb b (agreed (c ∷ bs))) b 2 ≡ b = ap (λ (t : Bool). cond t b 2) e in
        let r : agreed (b ∷ c ∷ bs) ≡ agreed (c ∷ bs) = z ∙ q in
        (sym z, subst (λ (m : ℕ). Each (λ x. x ≡ m) (c ∷ bs)) (sym r) (below (subst (λ (m : ℕ). m < 2) r h)))
    go false e below = let z : agreed (b ∷ c ∷ bs) ≡ 2 = ap (λ (t : Bool). cond t b 2) e in absurd (omega arith)

each-agreed : (m b : ℕ) (l : List ℕ) → Each (λ x. x ≡ m) (b ∷ l) → agreed (b ∷ l) ≡ m
each-agreed m b [] h = h.0
each-agreed m b (c ∷ l) h = let q : agreed (c ∷ l) ≡ m = each-agreed m c l h.1 in ap (λ (t : Bool). cond t b 2) (eq-eqb b (agreed (c ∷ l)) (h.0 ∙ sym q)) ∙ h.0

-- there is a filling
append-some : (s t : List ℕ) → (x : ℕ) × (r : List ℕ) × (s ≡ x ∷ r) → (x : ℕ) × (r : List ℕ) × (s ++ t ≡ x ∷ r)
append-some s t f = (f.0, f.1 ++ t, ap (λ (l : List ℕ). l ++ t) f.2)

some_filling : (k : ℕ) (vs : List ℕ) → (x : ℕ) × (r : List ℕ) × (fillings k vs ≡ x ∷ r)
some_filling k [] = (k, [], refl)
some_filling k (zero ∷ vs) = some_filling (2 * k) vs
some_filling k (suc zero ∷ vs) = some_filling (2 * k + 1) vs
some_filling k (suc (suc v) ∷ vs) = append-some (fillings (2 * k) vs) (fillings (2 * k + 1) vs) (some_filling (2 * k) vs)

-- a known answer stays where more is known
pub rule_keeps : (t : ℕ) (us vs : List ℕ) → Agree us vs → cell_rule t us < 2 → cell_rule t vs ≡ cell_rule t us
rule_keeps t us vs a h =
    let m = cell_rule t us in
    let all = narrow (λ x. entry t x ≡ m) 0 us vs a (each_map (λ x. x ≡ m) (entry t) (fillings 0 us) (agreed-each (map (entry t) (fillings 0 us)) h)) in
    let f = some_filling 0 vs in
    ap (λ (l : List ℕ). agreed (map (entry t) l)) f.2
    ∙ each-agreed m (entry t f.0) (map (entry t) f.1) (map_each (λ x. x ≡ m) (entry t) (f.0 ∷ f.1) (subst (λ (l : List ℕ). Each (λ x. entry t x ≡ m) l) f.2 all))

-- without unknowns there is one filling, the index
one_filling : (k : ℕ) (vs : List ℕ) → Each (λ v. v < 2) vs → fillings k vs ≡ index_from k vs ∷ []
unfolding index_from
one_filling k [] h = refl
one_filling k (zero ∷ vs) h = one_filling (2 * k) vs h.1 ∙ ap (λ (m : ℕ). index_from m vs ∷ []) (omega arith)
one_filling k (suc zero ∷ vs) h = one_filling (2 * k + 1) vs h.1
one_filling k (suc (suc v) ∷ vs) h = absurd (omega (arith, h.0))

pub rule_known : (t : ℕ) (vs : List ℕ) → Each (λ v. v < 2) vs → cell_rule t vs ≡ entry t (index_from 0 vs)
rule_known t vs h = ap (λ (l : List ℕ). agreed (map (entry t) l)) (one_filling 0 vs h)

pub entry-bit : (t j : ℕ) → entry t j < 2
entry-bit t j = bit_small t j

-- a cell of one wire answers what a cell of two with the same table answers whose first value is 0
pub rule_one : (t v : ℕ) → cell_rule t (0 ∷ v ∷ []) ≡ cell_rule t (v ∷ [])
rule_one t zero = refl
rule_one t (suc zero) = refl
rule_one t (suc (suc v)) = refl

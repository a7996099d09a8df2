-- What taking the cells one after the other keeps.
-- Assumes nothing.
use Prim.Native.Nat.{ℕ, suc, ◌+◌, ◌-◌, ◌*◌, ◌≤◌, ◌<◌, min}
use mathlib.Core.Path.{◌≡◌, refl, sym, ap, ◌∙◌, subst}
use mathlib.Core.Logic.{◌≢◌}
use mathlib.Core.Bool.{Bool, true}
use mathlib.Core.List.{List, [], ◌∷◌, ◌++◌}
use mathlib.Core.Option.{some}
use native.Mathlib.Omega.{arith}
use native.Mathlib.Numerals.{add-one}
use lib.Dec.{eqb}
use lib.ListN.{length, get_or, set, take, drop}
use lib.Seq.{drop-set-lt, drop-drop, take-suc-set, length-take-le}
use Rattle.graphs.specs.Graph.{Vertex, waits, ready, fit, ready_cells}
use Rattle.ordering.specs.Schedule.{pick, next as next_of, schedule_from, schedule_of}
use Rattle.ordering.specs.Schedule.{key_at}
use Rattle.ordering.specs.Areas.{ready_in, Running, Releasable, Released, Startable, Scheduled}
use Rattle.ordering.specs.Taking.{Taking, Took, Resumable, Finished}
use Rattle.ordering.specs.declared.window.Window.{Window}
use Rattle.ordering.specs.Tree.{tree_at, Fronted, Tracked}
use Rattle.readyset.specs.Sets.{member, Levels}
use Rattle.laws.proofs.Tests.{clash}
use Rattle.laws.proofs.Lists.{numbers_same}
use Rattle.graphs.proofs.Graph.{fit_snoc, left, left_fit, left_none, ready-waits}
use Rattle.ordering.proofs.Keeping.{fronted_member, fronted_levels}
use Rattle.ordering.proofs.Windows.{window_picked}
use Rattle.ordering.proofs.Order.{at-end, length-numbers, next-ready}

module _ (src : ℕ → ℕ) (c : List Vertex) (keys next : List ℕ) (window : ℕ) where
  flags_are : (taken area : List ℕ) → Running src c taken area next → ready_in (length c) area ≡ ready_cells c taken
  unfolding ready_cells
  flags_are taken area run = numbers_same (ready c taken) (member (drop (2 * length c) area)) 0 (length c) (λ k a b. run.flags k (omega arith))

  picked_is : (taken area : List ℕ) → Running src c taken area next → pick (key_at keys) (take window (ready_in (length c) area)) ≡ next_of c window (key_at keys) taken
  unfolding next_of
  picked_is taken area run = ap (λ (l : List ℕ). pick (key_at keys) (take window l)) (flags_are taken area run)

  module _ (taken : ℕ) (order area : List ℕ) (t : Taking src c keys next window taken order area) (few : taken ≤ length order) where
    module _ (p : ℕ) (picked : some p ≡ pick (key_at keys) (take window (ready_in (length c) area))) where
      next_at : next_of c window (key_at keys) (take taken order) ≡ some p
      next_at = sym (picked_is (take taken order) area t.running) ∙ sym picked

      pub taking_ready : ready c (take taken order) p ≡ true
      taking_ready = next-ready c window (key_at keys) (take taken order) p next_at

      pub taking_room : taken < length c
      unfolding left
      taking_room = go (eqb (left c (take taken order)) 0) refl
        where
          some_left : left c (take taken order) ≢ 0
          some_left z = clash (ready-waits c (take taken order) p taking_ready) (left_none c (take taken order) z p)

          go : (b : Bool) → eqb (left c (take taken order)) 0 ≡ b → taken < length c
          go b e = omega (arith, some_left, left_fit c [] (take taken order) t.fitting, length-take-le taken order few, length-numbers (waits c []) 0 (length c))

      pub taking_more : taken < length order → (after : List ℕ) → Released (length c) area next p after → Taking src c keys next window (taken + 1) (set order taken p) after
      unfolding schedule_from
      taking_more room after released =
          let e : take (taken + 1) (set order taken p) ≡ take taken order ++ p ∷ [] = ap (λ (k : ℕ). take k (set order taken p)) (add-one taken) ∙ take-suc-set order taken p room in
          let f : length c - taken ≡ suc (length c - (taken + 1)) = omega (arith, taking_room) in
          record {
            running = rw e (released src c (take taken order) refl t.running taking_ready);
            fitting = rw e (fit_snoc c [] (take taken order) p t.fitting taking_ready);
            same = rw e (rw (f, next_at) at t.same);
          }

    pub taking_over : ready_in (length c) area ≡ [] → (take taken order ≡ schedule_of c window (key_at keys)) × (taken ≡ length (schedule_of c window (key_at keys)))
    taking_over none-ready = (stop, sym (length-take-le taken order few) ∙ ap length stop)
      where
        stop : take taken order ≡ schedule_of c window (key_at keys)
        stop = sym (at-end c window (key_at keys) (length c - taken) (take taken order) (sym (flags_are (take taken order) area t.running) ∙ none-ready)) ∙ t.same

  pub taking_start : (order area : List ℕ) → Running src c [] area next → Taking src c keys next window 0 order area
  unfolding fit schedule_of
  taking_start order area run = let e : length c - 0 ≡ length c = omega arith in record { running = run; fitting = refl; same = rw e }

-- the same of any circuit that the areas fit, for the code

pub took_start : (start next keys : List ℕ) (count window : ℕ) (order : List ℕ) → Took start next keys count window 0 order start
took_start start next keys count window order src c run e = taking_start src c keys next window order start run

module _ (start next keys : List ℕ) (count window taken : ℕ) (order area : List ℕ) (took : Took start next keys count window taken order area) (few : taken ≤ length order) where
  pub took_over : ready_in count area ≡ [] → Scheduled count start next keys window order taken
  took_over e src c run s = taking_over src c keys next window taken order area (took src c run s) few (rw s e)

  module _ (p : ℕ) (picked : some p ≡ pick (key_at keys) (take window (ready_in count area))) where
    pub took_room : Startable count start next → taken < count
    took_room s = omega (arith, s.size, taking_room s.src s.circuit keys next window taken order area (took s.src s.circuit s.running s.size) few p (rw s.size picked))

    pub took_releasable : Startable count start next → Releasable count area next p
    took_releasable s =
        let t = took s.src s.circuit s.running s.size in
        record {
          src = s.src;
          circuit = s.circuit;
          taken = take taken order;
          size = s.size;
          running = t.running;
          is_ready = taking_ready s.src s.circuit keys next window taken order area t few p (rw s.size picked);
        }

    pub took_more : taken < length order → (after : List ℕ) → Released count area next p after → Took start next keys count window (taken + 1) (set order taken p) after
    took_more room after released src c run s = taking_more src c keys next window taken order area (took src c run s) few p (rw s picked) room after (subst (λ (n : ℕ). Released n area next p after) (sym s) released)

-- a change of the tree alone

running_fronted : (src : ℕ → ℕ) (c : List Vertex) (taken area next after : List ℕ) → Fronted (length c) area after → Running src c taken area next → Running src c taken after next
running_fronted src c taken area next after f run =
    record {
      room = omega (arith, run.room, f.size);
      links = run.links;
      heads = λ x h. f.front (2 * x + 1) (omega arith) ∙ run.heads x h;
      nexts = run.nexts;
      pends = λ q h. f.front (2 * q) (omega arith) ∙ run.pends q h;
      levels = fronted_levels (length c) area after f run.levels;
      flags = λ q h. fronted_member (length c) area after f q h ∙ run.flags q h;
      closed = run.closed;
      sourced = run.sourced;
    }

pub took_fronted : (start next keys : List ℕ) (count window taken : ℕ) (order area after : List ℕ) → Fronted count area after → Took start next keys count window taken order area → Took start next keys count window taken order after
took_fronted start next keys count window taken order area after f took src c run s =
    let t = took src c run s in
    record { running = running_fronted src c (take taken order) area next after (subst (λ (n : ℕ). Fronted n area after) (sym s) f) t.running; fitting = t.fitting; same = t.same }

pub drop-later : (a b : List ℕ) (t r : ℕ) → t ≤ r → drop t a ≡ drop t b → drop r a ≡ drop r b
drop-later a b t r h e =
    let z : t + (r - t) ≡ r = omega arith in
    sym (at a z) ∙ ap (drop (r - t)) e ∙ at b z
  where
    at : (l : List ℕ) → t + (r - t) ≡ r → drop (r - t) (drop t l) ≡ drop r l
    at l z = drop-drop (r - t) t l ∙ ap (λ (k : ℕ). drop k l) z

-- the same from a later place on

abbrev pub Onward : ℕ → List ℕ → List ℕ → ℕ → ℕ → List ℕ → List ℕ → ℕ → List ℕ → List ℕ → Type 0
Onward count next keys window taken₀ order₀ area₀ taken order area =
    (start : List ℕ) → Startable count start next → Took start next keys count window taken₀ order₀ area₀ → Took start next keys count window taken order area

pub onward_fronted : (count : ℕ) (next keys : List ℕ) (window taken₀ : ℕ) (order₀ area₀ : List ℕ) (taken : ℕ) (order area after : List ℕ) → Fronted count area after → Onward count next keys window taken₀ order₀ area₀ taken order area → Onward count next keys window taken₀ order₀ area₀ taken order after
onward_fronted count next keys window taken₀ order₀ area₀ taken order area after f on start s t = took_fronted start next keys count window taken order area after f (on start s t)

module _ (count : ℕ) (next keys : List ℕ) (window taken₀ : ℕ) (order₀ area₀ : List ℕ) (taken : ℕ) (order area : List ℕ) (on : Onward count next keys window taken₀ order₀ area₀ taken order area) (few : taken ≤ length order) where
  pub onward_over : ready_in count area ≡ [] → Finished count area₀ next keys window taken₀ order₀ order taken
  onward_over e start s t = took_over start next keys count window taken order area (on start s t) few e

  pub onward_more : (p : ℕ) → some p ≡ pick (key_at keys) (take window (ready_in count area)) → taken < length order → (after : List ℕ) → Released count area next p after → Onward count next keys window taken₀ order₀ area₀ (taken + 1) (set order taken p) after
  onward_more p picked room after released start s t = took_more start next keys count window taken order area (on start s t) few p picked room after released

  -- the pick that the first entry of the tree holds: there is room for it, and it may be released
  module _ (r : Resumable count area₀ next keys window taken₀ order₀) (at : Window) (t : Tracked count keys area at) (full : at.inside ≡ min window at.number) (wide : 1 ≤ window) (more : at.number ≢ 0) where
    pub root_picked : some (get_or area (tree_at count + 1) 0 - 1) ≡ pick (key_at keys) (take window (ready_in count area))
    root_picked = (window_picked count keys area at t window full wide more).1

    pub root_room : taken < count
    root_room = took_room r.start next keys count window taken order area (on r.start r.startable r.took) few _ root_picked r.startable

    pub root_releasable : Releasable count area next (get_or area (tree_at count + 1) 0 - 1)
    root_releasable = took_releasable r.start next keys count window taken order area (on r.start r.startable r.took) few _ root_picked r.startable

pub drop_more : (order start : List ℕ) (t p : ℕ) → drop t order ≡ drop t start → drop (t + 1) (set order t p) ≡ drop (t + 1) start
drop_more order start t p e = drop-set-lt (t + 1) order t p (omega arith) ∙ sym (drop-drop 1 t order) ∙ ap (drop 1) e ∙ drop-drop 1 t start

-- what the pick asks of the areas
pub record Pickable (count : ℕ) (area : List ℕ) : Type 0 where
  pub room : 3 * count ≤ length area
  pub levels : Levels (drop (2 * count) area) count

pub took_pickable : (start next keys : List ℕ) (count window taken : ℕ) (order area : List ℕ) → Took start next keys count window taken order area → Startable count start next → Pickable count area
took_pickable start next keys count window taken order area took s =
    let t = took s.src s.circuit s.running s.size in
    subst (λ (n : ℕ). Pickable n area) s.size (record { room = t.running.room; levels = t.running.levels })

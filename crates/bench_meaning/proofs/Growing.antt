-- What has been read, and more of it: every name keeps its wire and every wire its value.
-- Assumes nothing.
use Rattle.std.specs.Prelude.{None, Option, Some}
use Prim.Native.Nat.{ℕ, ◌+◌, ◌≤◌, ◌<◌}
use mathlib.Core.Path.{◌≡◌, sym, ap, ◌∙◌, subst}
use mathlib.Core.Bool.{true}
use mathlib.Core.List.{List, ◌∷◌, map}
use lib.ListN.{length}
use Rattle.laws.specs.Stretches.{All}
use Rattle.circuit.specs.declared.records.BoolWire.{BoolWire}
use Rattle.text.specs.declared.words.Word.{Word}
use Rattle.names.specs.Names.{Entry}
use Rattle.reading.specs.Reading.{Held, find}
use Rattle.reading.proofs.Ended.{wire_at}
use Rattle.reading.proofs.Sound.{Wired, wired_more, find_below}
use Rattle.reading.proofs.Growing.{Known, Grows as GrowsBy, value_kept, values_kept}
use Rattle.values.specs.Values.{signal_value, storage_values}
use Rattle.bench_meaning.specs.GateMeaning.{wire_value, Carries}
use Rattle.bench_meaning.specs.TextMeaning.{name_value}
use Rattle.reading.proofs.Made.{entry}
use Rattle.bench_meaning.proofs.Naming.{found_in, find-is, find_new, find-kept}

-- the wire that bytes stand for
abbrev pub wire_named : List ℕ → List Entry → List ℕ → BoolWire
wire_named t es bytes = wire_at (found_in t es bytes)

abbrev pub HeldWired : Held → Type 0
HeldWired h = Wired (length h.nodes) h.names

module _ (t a : List ℕ) where
  abbrev pub value : Held → Word → ℕ
  value h w = name_value t h.nodes (wire_named t h.names) a w

  abbrev pub Defined : Held → Word → Type 0
  Defined = Known (find true t) (wire_value a)

  pub value_at : (h : Held) (w : Word) (x : ℕ) → find true t w h.names ≡ Some x → value h w ≡ wire_value a h.nodes x
  unfolding wire_value
  value_at h w x q = ap (λ (f : Option ℕ). signal_value (storage_values h.nodes a) (wire_at f)) (sym (find-is t w h.names) ∙ q)

  abbrev pub Grows : Held → Held → Type 0
  Grows = GrowsBy (find true t) (wire_value a)

  find_below_all : (h : Held) (w : Word) (x : ℕ) → HeldWired h → find true t w h.names ≡ Some x → x < length h.nodes + 2
  find_below_all h w x wd q = find_below (length h.nodes) true t w h.names x wd q

  module _ (h h' : Held) (g : Grows h h') (wd : HeldWired h) where
    pub value_on : (w : Word) → Defined h w → value h' w ≡ value h w
    value_on w d = value_kept (find true t) (wire_value a) h h' g value value_at find_below_all wd w d

    pub values_on : (ws : List Word) → All (Defined h) ws → map (value h') ws ≡ map (value h) ws
    values_on ws d = values_kept (find true t) (wire_value a) h h' g value value_at find_below_all wd ws d

  -- ---- a name more

  pub record Added (h h' : Held) (w : Word) (v : ℕ) : Type 0 where
    pub grows : Grows h h'
    pub wired : HeldWired h'
    pub defined : Defined h' w
    pub is : value h' w ≡ v

  pub added : (h h' : Held) (w : Word) (x v : ℕ) → HeldWired h → find true t w h.names ≡ None → h'.names ≡ entry w x ∷ h.names
      → ((y : ℕ) → y < length h.nodes + 2 → wire_value a h'.nodes y ≡ wire_value a h.nodes y) → length h.nodes ≤ length h'.nodes → Carries a h'.nodes x v → Added h h' w v
  added h h' w x v wd new e kept more c =
      let found : find true t w h'.names ≡ Some x = subst (λ (es : List Entry). find true t w es ≡ Some x) (sym e) (find_new t w x h.names new) in
      record {
        grows = record { names = λ u y q. subst (λ (es : List Entry). find true t u es ≡ Some y) (sym e) (find-kept t w u x y h.names new q); wires = kept; more = more };
        wired = subst (Wired (length h'.nodes)) (sym e) (c.there, wired_more (length h.nodes) (length h'.nodes) more h.names wd);
        defined = (x, found);
        is = value_at h' w x found ∙ c.value;
      }

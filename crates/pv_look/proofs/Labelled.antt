-- The labels that the instructions up to an offset name.
use Rattle.std.proofs.Common.{◌≡◌, ℕ, ◌<◌, ◌≤◌, Bool, List, [], ◌∷◌, ◌++◌, length, refl, sym, ap, ◌∙◌, arith}
use Rattle.std.specs.Prelude.{false, true, ◌||◌, slice_index_or}
use Rattle.std.specs.List.{list_any}
use Rattle.std.proofs.lemmas.List.Folds.{list_any-append}
use Rattle.image_check.specs.Image.{Image}
use Rattle.image_check.specs.Sweep.{Swept}
use Rattle.pv_look.specs.declared.here.Here.{Here}
use Rattle.pv_look.specs.Labels.{named_by, is_at, names, is_named}
use Rattle.pv_look.specs.Sweeping.{Reached}
use Rattle.pv_look.proofs.Sweeps.{all_done}

or_false : (a b : Bool) → (a || (b || false)) ≡ (a || b)
or_false true b = refl
or_false false true = refl
or_false false false = refl

-- the flags are those of the instructions that are done
pub record AreNamed (image : Image) (flags : List Bool) (done : List Swept) : Type 0 where
  pub flags_are : (i : ℕ) → i < length image.text → slice_index_or flags i false ≡ list_any (names image i) done
  pub len : length flags ≡ length image.text

pub one_named : (image : Image) (s : Swept) (old new : List Bool) (done : List Swept) → AreNamed image old done
    → ((i : ℕ) → i < length old → slice_index_or new i false ≡ (slice_index_or old i false || is_at i (named_by image s)))
    → length new ≡ length old
    → AreNamed image new (done ++ s ∷ [])
one_named image s old new done h marked same = record {
  flags_are = λ i lt.
      marked i (omega (arith, h.len))
      ∙ (ap (λ (b : Bool). b || is_at i (named_by image s)) (h.flags_are i lt)
      ∙ (sym (or_false (list_any (names image i) done) (names image i s)) ∙ sym (list_any-append (names image i) done (s ∷ []))));
  len = same ∙ h.len;
}

-- after the last one they are all
pub all_named : (image : Image) (flags : List Bool) (at : ℕ) (done rest : List Swept) → Reached image.text at done rest
    → length image.text ≤ at → AreNamed image flags done
    → (i : ℕ) → i < length image.text → slice_index_or flags i false ≡ is_named image i
unfolding is_named
all_named image flags at done rest r le h i lt =
    h.flags_are i lt ∙ ap (λ (xs : List Swept). list_any (names image i) xs) (all_done image.text at done rest r le)

-- the flag at an instruction
pub is_labelled : (image : Image) (flags : List Bool) (h : Here) (at : ℕ) → h.at ≡ at → at < length image.text
    → ((i : ℕ) → i < length image.text → slice_index_or flags i false ≡ is_named image i)
    → slice_index_or flags at false ≡ is_named image h.at
is_labelled image flags h at place lt are = are at lt ∙ ap (is_named image) (sym place)

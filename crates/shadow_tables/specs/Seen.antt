-- What shadows show over a memory, as one value, and what each call makes of it.
use Rattle.std.specs.Prelude.{ℕ, ◌/◌, ◌^◌, Bool, true, false, ◌==◌, ◌&&◌, ◌||◌, not, nat_le, if◌then◌else◌, is_none, Option, Some, None, List, [], ◌∷◌, map}
use Rattle.std.specs.List.{list_any}
use Rattle.paging.specs.declared.entry.Entry.{Entry}
use Rattle.shadow_tables.specs.OtherRoot.{OtherRoot, spared}
use Rattle.shadow_tables.specs.Slots.{Slot, filled, barred}
use Rattle.shadow_tables.specs.declared.words.Side.{Side}
use Rattle.shadow_tables.specs.declared.calls.Call.{Call}
use Rattle.shadow_tables.specs.declared.calls.Call.TheVariants.{Fill, DropPage, DropDir, DropAll, Note, Written}

-- What is kept of each page under the present value of CR3, the frames from which the tables under it were read, whether
-- one of these was written, that value where it is known, and what is kept for other values, the last used first.
pub record Seen : Type 0 where
  pub slots : ℕ → Option Slot
  pub read_from : ℕ → Bool
  pub stale : Bool
  pub cr3 : Option ℕ
  pub other_roots : List OtherRoot

-- nothing beyond the last page
abbrev pub of_pages : (ℕ → Option Slot) → ℕ → Option Slot
of_pages f page = if nat_le (2 ^ 20) page then None else f page

-- no access may write to the frame: tables that may come back were read from it
abbrev pub protects : Seen → ℕ → Bool
protects v frame = (not (is_none v.cr3) && v.read_from frame) || list_any (λ a. a.tables frame) v.other_roots

abbrev pub turned : ℕ → Option Slot → (ℕ → Option Slot) → ℕ → Option Slot
turned page o f q = if q == page then o else f q

abbrev pub without : ℕ → (ℕ → Option Slot) → ℕ → Option Slot
without index f q = if q / 1024 == index then None else f q

abbrev pub page_dropped : ℕ → Seen → Seen
page_dropped page v = record v { slots = turned page None v.slots }

abbrev pub dir_dropped : ℕ → Seen → Seen
dir_dropped index v = record v { slots = without index v.slots }

abbrev pub page_filled : Side → Entry → Bool → Seen → Seen
page_filled side entry wp v = record v { slots = turned entry.page (Some (filled (protects v entry.frame) side entry wp)) v.slots }

-- where nothing comes back, nothing is noted
abbrev pub emptied : Seen → Seen
emptied v =
    if is_none v.cr3 then record v { slots = λ page. None; other_roots = [] }
    else record v { slots = λ page. None; read_from = λ frame. false; stale = false; other_roots = [] }

abbrev pub noted : ℕ → Seen → Seen
noted frame v =
    if is_none v.cr3 then v
    else record v {
      slots = λ page. barred (frame ∷ []) (v.slots page);
      read_from = λ f. v.read_from f || (f == frame);
      other_roots = map (λ (a : OtherRoot). record a { slots = λ page. barred (frame ∷ []) (a.slots page) }) v.other_roots;
    }

abbrev pub told_written : ℕ → Seen → Seen
told_written frame v =
    if is_none v.cr3 then v
    else record v {
      read_from = λ f. v.read_from f && not (f == frame);
      stale = v.stale || v.read_from frame;
      other_roots = spared frame v.other_roots;
    }

abbrev pub after_one : Call → Seen → Seen
after_one (Fill side entry wp) v = page_filled side entry wp v
after_one (DropPage page) v = page_dropped page v
after_one (DropDir index) v = dir_dropped index v
after_one DropAll v = emptied v
after_one (Note frame) v = noted frame v
after_one (Written frame) v = told_written frame v

abbrev pub after_calls : List Call → Seen → Seen
after_calls [] v = v
after_calls (c ∷ cs) v = after_calls cs (after_one c v)

-- ---- of shadows that keep nothing for other values of CR3, from which nothing comes back

abbrev pub alone : (ℕ → Option Slot) → Seen
alone f = record { slots = of_pages f; read_from = λ frame. true; stale = true; cr3 = None; other_roots = [] }

-- ---- by what the shadows keep, page by page

abbrev pub of_root : OtherRoot → OtherRoot
of_root a = record a { slots = of_pages a.slots }

abbrev pub of_roots : List OtherRoot → List OtherRoot
of_roots [] = []
of_roots (a ∷ other_roots) = of_root a ∷ of_roots other_roots

abbrev pub seen_of : (ℕ → Option Slot) → (ℕ → Bool) → Bool → Option ℕ → List OtherRoot → Seen
seen_of f tables stale cr3 other_roots =
    record { slots = of_pages f; read_from = tables; stale = stale; cr3 = cr3; other_roots = of_roots other_roots }

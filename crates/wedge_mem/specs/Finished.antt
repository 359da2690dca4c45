-- What the end of a step leaves in the shadows.
use Rattle.std.specs.Prelude.{◌≡◌, ℕ, List, [], true, false, ◌||◌, Option, IfSome, IsSome, MatchOption}
use Rattle.std.specs.List.{list_any}
use Rattle.guest_ram.specs.Among.{is_among}
use Rattle.paging.specs.Space.{Space}
use Rattle.shadow_tables.specs.OtherRoot.{LoseWrites, all_spared}
use Rattle.shadow_tables.specs.Entries.{entries_of}
use Rattle.shadow_tables.specs.declared.shadows.Shadows as shadows
use Rattle.shadow_tables.specs.declared.words.Side.{Side}
use Rattle.wedge_mem.specs.Settled.{LeavesSet, Settles}
use Rattle.wedge_mem.specs.Told.{guest_frames, read_by}

module _ {S : Type 0} (g : shadows.Ghosts S) where
  -- The shadows are settled to what a step did, which went through these pages: with an answer the entries that it used are
  -- filled on that side; without one, since too few frames are free, all is dropped.
  pub record IsSettled (old new : S) (m m' : List ℕ) (did : Space) (pages : List ℕ) (side : Side) (result : Option ℕ) : Type 0 where
    -- what is kept, as a set
    pub entries : LeavesSet result (entries_of (g.slots new m')) did.set
    -- and in which view, with which rights
    pub filled : IfSome result (λ n. Settles (g.slots old m) (g.slots new m') did.set pages side did.wp (g.write_protected new))
    -- the frames that the step read as tables are noted, but for those that it wrote
    pub read_from : IsSome result → (frame : ℕ) → is_among frame did.wrote ≡ false
        → g.read_from new frame ≡ read_by (g.read_from old) did.tables frame
    pub noted_only : (frame : ℕ) → g.read_from new frame ≡ true → read_by (g.read_from old) did.tables frame ≡ true
    -- the present tables are marked where the step wrote one of them
    pub stale : MatchOption result (g.stale new ≡ true → g.stale old ≡ true)
        (λ n. g.stale new ≡ (g.stale old || list_any (read_by (g.read_from old) did.tables) did.wrote))
    pub cr3 : g.cr3 new ≡ g.cr3 old
    -- what is kept for another value of CR3 goes where the step wrote one of its tables, and lets no write pass to a new one
    pub other_roots : MatchOption result (g.other_roots new m' ≡ [])
        (λ n. LoseWrites (guest_frames did.tables) (all_spared did.wrote (g.other_roots old m)) (g.other_roots new m'))
    -- no frame that it wrote is write-protected
    pub unprotected : IsSome result → (frame : ℕ) → is_among frame did.wrote ≡ true → is_among frame (g.write_protected new) ≡ false

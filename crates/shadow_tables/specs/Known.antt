-- What shadows know of the guest's tables beside what they keep of its pages, before a call and after it.
use Rattle.std.specs.Prelude.{◌≡◌, ℕ, List, ◌∷◌, Bool, true, false, ◌||◌, ◌==◌, Option}
use Rattle.guest_ram.specs.Among.{is_among}
use Rattle.shadow_tables.specs.OtherRoot.{OtherRoot, AreSame}
use Rattle.shadow_tables.specs.Slots.{ArePart}

-- By what the shadows show: from which frames the present tables were read, whether one of these was written, to which value
-- of CR3 the tables belong, and to which frames no access may write.
module _ {S : Type 0} (reads : S → ℕ → Bool) (marks : S → Bool) (root : S → Option ℕ) (protects : S → List ℕ) where
  -- all of it is the same, and so is what is kept for other values of CR3
  pub record SameBeside (others : S → List ℕ → List OtherRoot) (old new : S) (m m' : List ℕ) : Type 0 where
    pub read_from : (f : ℕ) → reads new f ≡ reads old f
    pub stale : marks new ≡ marks old
    pub cr3 : root new ≡ root old
    pub other_roots : AreSame (others old m) (others new m')
    pub write_protected : protects new ≡ protects old

  -- no more of it than before, for the same value
  pub record KnowsNoMore (old new : S) : Type 0 where
    pub read_from : (f : ℕ) → reads new f ≡ true → reads old f ≡ true
    pub stale : marks new ≡ true → marks old ≡ true
    pub cr3 : root new ≡ root old
    pub write_protected : ArePart (protects new) (protects old)

  -- nothing of it, for the same value: no frame was read yet
  pub record KnowsNothing (old new : S) : Type 0 where
    pub read_from : (f : ℕ) → reads new f ≡ false
    pub stale : marks new ≡ false
    pub cr3 : root new ≡ root old
    pub write_protected : ArePart (protects new) (protects old)

  -- that the tables were read from this frame too, to which no access may write where it is write-protected now
  pub record KnowsRead (frame : ℕ) (old new : S) : Type 0 where
    pub read_from : (f : ℕ) → reads new f ≡ (reads old f || (f == frame))
    pub stale : marks new ≡ marks old
    pub cr3 : root new ≡ root old
    pub write_protected : ArePart (protects new) (frame ∷ protects old)

  -- that this frame was written: it isn't write-protected any more, and the tables are marked where they were read from it
  pub record KnowsWritten (frame : ℕ) (old new : S) : Type 0 where
    pub read_from : (f : ℕ) → (f ≡ frame → ⊥) → reads new f ≡ reads old f
    pub read_before : reads new frame ≡ true → reads old frame ≡ true
    pub stale : marks new ≡ (marks old || reads old frame)
    pub cr3 : root new ≡ root old
    pub write_protected : ArePart (protects new) (protects old)
    pub unprotected : is_among frame (protects new) ≡ false

-- What the first 256 bytes of a checkpoint are to meet. A demand that ties fields to each other is the last one's.
use Rattle.std.specs.Prelude.{ℕ, ◌+◌, ◌^◌, Bool, ◌&&◌, ◌||◌, ◌==◌, nat_lt, nat_le, bit_and, List, [], ◌∷◌, ◌++◌, map, slice_index, slice_index_or, if◌then◌else◌}
use Rattle.ia32_types.specs.Bits.{worth}
use Rattle.board.specs.Restored.{demands as board_tests}
use Rattle.checkpoint.specs.declared.demand.Demand.{Demand}
use Rattle.checkpoint.specs.declared.head.Head.{Head}
use Rattle.checkpoint.specs.declared.head.Segment.{Segment}
use Rattle.checkpoint.specs.declared.head.TheConstants.{FRAMES_PLACE, STEP_PLACE, EFLAGS_PLACE, CR0_PLACE, CR3_PLACE, CR4_PLACE, TASK_LOADED_PLACE, LEVEL_PLACE, HALTED_PLACE, HELD_PLACE}
use Rattle.checkpoint.specs.Demands.{of_field, zero_demands}

-- A file that ends within "PVC1" can still be gone on with, if these are its bytes so far.
abbrev pub magic_demands : List ℕ → List Demand
magic_demands magic =
    of_field 0 1 (slice_index magic 0 == 80)
    ∷ of_field 0 2 (slice_index magic 1 == 86)
    ∷ of_field 0 3 (slice_index magic 2 == 67)
    ∷ of_field 0 4 (slice_index magic 3 == 49)
    ∷ []

abbrev pub is_frame_count : ℕ → Bool
is_frame_count n = nat_le 2048 n && nat_le n 16384

abbrev pub count_demands : Head → List Demand
count_demands h = of_field FRAMES_PLACE 4 (is_frame_count h.frames) ∷ of_field STEP_PLACE 8 (nat_le h.step (2 ^ 40)) ∷ []

-- the processor

-- bit 1 is 1, and of the others only CF, PF, AF, ZF, SF, IF, DF, OF and the two bits of IOPL may be set
abbrev pub are_flags : ℕ → Bool
are_flags bits = bit_and bits 2 == 2 && bit_and bits 0xFFFFC128 == 0

-- paging, protection and bit 4 are on, and no reserved bit
abbrev pub is_control_0 : ℕ → Bool
is_control_0 bits = bit_and bits 0x80000011 == 0x80000011 && bit_and bits 0x7FFAFFC0 == 0

abbrev pub is_control_4 : ℕ → Bool
is_control_4 bits = bits == 0 || bits == 0x10

abbrev pub is_level : ℕ → Bool
is_level level = level == 0 || level == 3

-- a halted processor is at level 0
abbrev pub is_halt : ℕ → ℕ → Bool
is_halt halted level = nat_le halted 1 && (halted == 0 || level == 0)

abbrev pub processor_demands : Head → List Demand
processor_demands h =
    of_field EFLAGS_PLACE 4 (are_flags h.eflags)
    ∷ of_field CR0_PLACE 4 (is_control_0 h.cr0)
    ∷ of_field CR3_PLACE 4 (bit_and h.cr3 0xFE7 == 0)
    ∷ of_field CR4_PLACE 4 (is_control_4 h.cr4)
    ∷ of_field TASK_LOADED_PLACE 1 (nat_le h.task_loaded 1)
    ∷ of_field LEVEL_PLACE 1 (is_level h.level)
    ∷ of_field HALTED_PLACE 1 (is_halt h.halted h.level)
    ∷ of_field HELD_PLACE 1 (nat_le h.held 1)
    ∷ []

abbrev pub segment_of : Head → ℕ → Segment
segment_of h k = slice_index_or h.segments k (record { selector = 0; null = 0; level = 0 })

-- a selector below 4 is null, and no other
abbrev pub is_null : Segment → Bool
is_null s = s.null == worth (nat_lt s.selector 4)

abbrev pub segment_demands : ℕ → Segment → List Demand
segment_demands at s = of_field (at + 2) 1 (is_null s) ∷ of_field (at + 3) 1 (is_level s.level) ∷ []

-- the segments of code and stack are there, and of the processor's level
abbrev pub own_segment_demands : ℕ → Segment → ℕ → List Demand
own_segment_demands at s level = of_field (at + 2) 1 (s.null == 0) ∷ of_field (at + 3) 1 (s.level == level) ∷ []

abbrev pub segments_demands : Head → List Demand
segments_demands h =
    segment_demands 96 (segment_of h 0) ++ segment_demands 100 (segment_of h 1) ++ segment_demands 104 (segment_of h 2)
    ++ segment_demands 108 (segment_of h 3)
    ++ own_segment_demands 100 (segment_of h 1) h.level ++ own_segment_demands 104 (segment_of h 2) h.level

-- the board

-- how many bytes the board's field at a place has, where its test needs them all
abbrev pub width_in_board : ℕ → ℕ
width_in_board at = if at == 16 || at == 20 then 4 else if at == 24 then 8 else 1

abbrev pub board_demand : ℕ × Bool → Demand
board_demand test = of_field (128 + test.0) (width_in_board test.0) test.1

abbrev pub board_demands : List ℕ → List Demand
board_demands board = map board_demand (board_tests board)

-- all of them

unfoldable pub demands : Head → List Demand
demands h =
    magic_demands h.magic ++ count_demands h ++ processor_demands h ++ segments_demands h ++ zero_demands 114 h.unnamed
    ++ board_demands h.board ++ zero_demands 192 h.rest

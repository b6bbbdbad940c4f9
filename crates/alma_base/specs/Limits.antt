-- The limits of the language, its programs and its objects, each named once.
use Rattle.std.specs.Prelude.{ℕ}

-- the greatest number of bytes of a source
abbrev pub source_limit : ℕ
source_limit = 1048576

-- the greatest number of brackets that are open at once in a source
abbrev pub depth_limit : ℕ
depth_limit = 100

-- the greatest number of cells of a type, of elements of an array, and of declared cells of a frame and of all live frames
abbrev pub cell_limit : ℕ
cell_limit = 1048576

-- the greatest number of live frames, that of the globals included
abbrev pub frame_limit : ℕ
frame_limit = 10000

-- the greatest size of a program, which is 16 for each of its nodes
abbrev pub size_limit : ℕ
size_limit = 4194304

-- the greatest number of bytes of an input
abbrev pub input_limit : ℕ
input_limit = 16777216

-- the greatest number of routines of a code
abbrev pub routine_limit : ℕ
routine_limit = 262144

-- the greatest number of instructions of a code
abbrev pub instr_limit : ℕ
instr_limit = 4194304

-- the greatest number of slots of a routine of a checked program
abbrev pub routine_slot_limit : ℕ
routine_slot_limit = 4194304

-- the greatest number of slots of a routine of a code, and of runs of slots in all
abbrev pub slot_limit : ℕ
slot_limit = 8388608

-- the greatest number of globals, of parameters in all, of ranges, of texts and of line records of a code
abbrev pub record_limit : ℕ
record_limit = 1048576

-- the greatest number of bytes of all names of a code, and of all its texts
abbrev pub pool_limit : ℕ
pool_limit = 16777216

-- the greatest number of bytes of an object
abbrev pub object_limit : ℕ
object_limit = 268435456

-- The generated trace. Each line ends with a line feed, and numbers are decimal.
use Rattle.std.specs.Prelude.{ℕ, zero, suc, ◌+◌, ◌-◌, ◌*◌, ◌%◌, min, ◌==◌, List, [], ◌++◌, codes}
use Rattle.std.specs.Prelude.{if◌then◌else◌}
use Rattle.std.specs.Fmt.{decimal}
use Rattle.std.specs.Int.{div_ceil}
use Rattle.sv_gen.specs.Draws.{state_after, drawn}

-- two lanes with a queue each, a buffer and a timeline semaphore
unfoldable pub opening_text : List ℕ
opening_text = codes "{\"op\":\"queue\",\"queue\":0,\"family\":0,\"lane\":0}\n"
    ++ codes "{\"op\":\"queue\",\"queue\":1,\"family\":0,\"lane\":1}\n"
    ++ codes "{\"op\":\"buffer\",\"res\":0,\"size\":65536}\n"
    ++ codes "{\"op\":\"semaphore\",\"sem\":0,\"kind\":\"timeline\",\"initial\":0}\n"

-- the start of a line
unfoldable pub op_text : List ℕ → List ℕ
op_text op = codes "{\"op\":\"" ++ op ++ codes "\""

-- a member with a number
unfoldable pub member_text : List ℕ → ℕ → List ℕ
member_text name value = codes ",\"" ++ name ++ codes "\":" ++ decimal value

unfoldable pub begin_line : ℕ → ℕ → List ℕ
begin_line rec recorder = op_text (codes "begin") ++ member_text (codes "rec") rec
    ++ member_text (codes "recorder") recorder ++ codes ",\"family\":0}\n"

unfoldable pub end_line : ℕ → List ℕ
end_line rec = op_text (codes "end") ++ member_text (codes "rec") rec ++ codes "}\n"

abbrev pub access_name : ℕ → List ℕ
access_name b = if b == 0 then codes "transfer_read" else codes "transfer_write"

-- a read or a write of the buffer by a copy
unfoldable pub access_text : ℕ → List ℕ
access_text b = codes ",\"accesses\":[{\"res\":0,\"stage\":\"copy\",\"access\":\"" ++ access_name b
    ++ codes "\""

-- the work is on the 16 bytes of its place
unfoldable pub work_line : ℕ → ℕ → ℕ → List ℕ
work_line rec place b = op_text (codes "work") ++ member_text (codes "rec") rec ++ access_text b
    ++ member_text (codes "start") (16 * place) ++ member_text (codes "end") (16 * place + 16)
    ++ codes "}]}\n"

-- a dependency from the writes of copies to the reads and writes of copies
unfoldable pub deps_text : List ℕ
deps_text =
    codes
    ",\"deps\":[{\"src\":[\"copy\"],\"src_access\":[\"transfer_write\"],\"dst\":[\"copy\"],\"dst_access\":[\"transfer_read\",\"transfer_write\"]}]}\n"

unfoldable pub barrier_line : ℕ → List ℕ
barrier_line rec = op_text (codes "barrier") ++ member_text (codes "rec") rec ++ deps_text

-- a barrier follows a work where c is not 0
unfoldable pub followed_text : ℕ → ℕ → List ℕ
followed_text rec c = if c == 0 then [] else barrier_line rec

-- from the state x, a work draws its place, whether it reads or writes, and whether a barrier follows, in
-- this order
unfoldable pub work_text : ℕ → ℕ → List ℕ
work_text rec x = work_line rec (drawn (state_after x 1) 4096) (drawn (state_after x 2) 2)
    ++ followed_text rec (drawn (state_after x 3) 4)

-- so many works of a recording, from the state x
unfoldable pub works_text : ℕ → ℕ → ℕ → List ℕ
works_text rec x zero = []
works_text rec x (suc works) = works_text rec x works ++ work_text rec (state_after x (3 * works))

-- a wait or a signal of the semaphore by all commands
unfoldable pub point_text : List ℕ → ℕ → List ℕ
point_text word value = codes "\"" ++ word ++ codes "\":[{\"sem\":0" ++ member_text (codes "value") value
    ++ codes ",\"stages\":[\"all_commands\"]}]"

unfoldable pub recs_text : ℕ → List ℕ
recs_text rec = codes ",\"recs\":[" ++ decimal rec ++ codes "],"

-- a batch waits for the value that the one before it signals
unfoldable pub batch_text : ℕ → List ℕ
batch_text rec = point_text (codes "waits") rec ++ recs_text rec ++ point_text (codes "signals") (rec + 1)

unfoldable pub submit_line : ℕ → ℕ → List ℕ
submit_line rec lane = op_text (codes "submit") ++ member_text (codes "lane") lane
    ++ member_text (codes "queue") lane
    ++ codes ",\"batches\":[{" ++ batch_text rec ++ codes "}]}\n"

-- a recording and its submit: recordings take the two recorders and the two lanes in turn
unfoldable pub recording_text : ℕ → ℕ → ℕ → List ℕ
recording_text rec x works = begin_line rec (rec % 2) ++ works_text rec x works ++ end_line rec
    ++ submit_line rec (rec % 2)

-- the first recordings of so many works: each has 100 works, of three draws each, and the last one the rest
unfoldable pub recordings_text : ℕ → ℕ → ℕ → List ℕ
recordings_text seed count zero = []
recordings_text seed count (suc rec) = recordings_text seed count rec
    ++ recording_text rec (state_after seed (300 * rec)) (min 100 (count - 100 * rec))

-- the whole trace of so many works
unfoldable pub generated : ℕ → ℕ → List ℕ
generated seed count = opening_text ++ recordings_text seed count (div_ceil count 100)

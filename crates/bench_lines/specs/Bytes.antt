-- To be believed: the schedules and logs of the bench table, as bytes (document 01, "Bench table": "R×5" is five reader steps).
use Rattle.std.specs.Prelude.{ℕ, List, [], ◌∷◌, ◌++◌}

-- The fields: 1 initial 5, 2 start 9, 3 another writer step, 4 writer flicker, 5 reader step; 7 write began, 8 write ended, 9 read began,
-- 10 read ended.
abbrev pub initial5 : List ℕ
initial5 = 1 ∷ 0 ∷ 4 ∷ 0 ∷ 0 ∷ 0 ∷ 5 ∷ []

abbrev pub start9 : List ℕ
start9 = 2 ∷ 0 ∷ 4 ∷ 0 ∷ 0 ∷ 0 ∷ 9 ∷ []

abbrev pub writer : List ℕ
writer = 3 ∷ 0 ∷ 0 ∷ []

abbrev pub flicker : ℕ → List ℕ
flicker bit = 4 ∷ 0 ∷ 1 ∷ bit ∷ []

abbrev pub reader : List ℕ
reader = 5 ∷ 0 ∷ 0 ∷ []

abbrev pub reader×2 : List ℕ
reader×2 = reader ++ reader

abbrev pub reader×5 : List ℕ
reader×5 = reader ++ reader×2 ++ reader×2

abbrev pub writer×3 : List ℕ
writer×3 = writer ++ writer ++ writer

abbrev pub writer×7 : List ℕ
writer×7 = writer×3 ++ writer×3 ++ writer

abbrev pub write_began_bytes : ℕ → List ℕ
write_began_bytes v = 7 ∷ 0 ∷ 4 ∷ 0 ∷ 0 ∷ 0 ∷ v ∷ []

abbrev pub write_ended_bytes : List ℕ
write_ended_bytes = 8 ∷ 0 ∷ 0 ∷ []

abbrev pub read_began_bytes : List ℕ
read_began_bytes = 9 ∷ 0 ∷ 0 ∷ []

abbrev pub read_ended_bytes : ℕ → List ℕ
read_ended_bytes v = 10 ∷ 0 ∷ 4 ∷ 0 ∷ 0 ∷ 0 ∷ v ∷ []

-- The schedules of P1 to P6.
abbrev pub schedule1 : List ℕ
schedule1 = initial5

abbrev pub schedule2 : List ℕ
schedule2 = initial5 ++ reader×5

abbrev pub schedule3 : List ℕ
schedule3 = initial5 ++ start9 ++ writer×3 ++ reader×5

abbrev pub schedule4 : List ℕ
schedule4 = schedule2 ++ start9 ++ writer×7 ++ reader×5

abbrev pub schedule5 : List ℕ
schedule5 = schedule2 ++ start9 ++ reader×2

abbrev pub schedule6 : List ℕ
schedule6 = initial5 ++ start9 ++ flicker 1 ++ reader×5 ++ flicker 0 ++ reader×2

-- Their logs.
abbrev pub a_read : ℕ → List ℕ
a_read v = read_began_bytes ++ read_ended_bytes v

abbrev pub log2 : List ℕ
log2 = initial5 ++ a_read 5

abbrev pub log3 : List ℕ
log3 = initial5 ++ write_began_bytes 9 ++ write_ended_bytes ++ a_read 9

abbrev pub log4 : List ℕ
log4 = log2 ++ write_began_bytes 9 ++ write_ended_bytes ++ a_read 9

abbrev pub log5 : List ℕ
log5 = log2 ++ write_began_bytes 9 ++ a_read 5

abbrev pub log6 : List ℕ
log6 = initial5 ++ write_began_bytes 9 ++ a_read 9 ++ a_read 9

-- P7 "the 34-byte log": 01 00 04 00 00 00 05 09 00 00 07 00 04 00 00 00 09 0A 00 04 00 00 00 09 09 00 00 0A 00 04 00 00 00 05.
abbrev pub log7 : List ℕ
log7 =
    1 ∷ 0 ∷ 4 ∷ 0 ∷ 0 ∷ 0 ∷ 5 ∷ 9 ∷ 0 ∷ 0 ∷ 7 ∷ 0 ∷ 4 ∷ 0 ∷ 0 ∷ 0 ∷ 9 ∷ 10 ∷ 0 ∷ 4 ∷ 0 ∷ 0 ∷ 0 ∷ 9 ∷ 9 ∷ 0 ∷ 0 ∷ 10 ∷ 0 ∷ 4 ∷ 0 ∷ 0 ∷ 0 ∷ 5 ∷ []

-- P8 "initial 5, write 9 ended, write 5 begun, reads 9 then 5"
abbrev pub log8 : List ℕ
log8 = initial5 ++ write_began_bytes 9 ++ write_ended_bytes ++ write_began_bytes 5 ++ a_read 9 ++ a_read 5

-- P9 "initial 5, write 9 ended, read 5"
abbrev pub log9 : List ℕ
log9 = initial5 ++ write_began_bytes 9 ++ write_ended_bytes ++ a_read 5

-- P10 "initial 5, read 9 ended, then write 9 begun"
abbrev pub log10 : List ℕ
log10 = initial5 ++ a_read 9 ++ write_began_bytes 9

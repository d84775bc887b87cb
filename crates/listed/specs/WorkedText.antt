-- The texts of the worked table, line by line.
use Rattle.std.specs.Prelude.{ℕ, List, ◌++◌}
use Rattle.lines.specs.Text.{bytes_in}

-- the listing of document 01's input
abbrev pub thirteen_lines : List ℕ
thirteen_lines =
    bytes_in "1 16 0 1 1 00000003 00000000 -\n"
    ++ bytes_in "2 20 0 0 0 00000002 00000001 0\n"
    ++ bytes_in "3 21 0 1 100 00000002 00000001 0\n"
    ++ bytes_in "4 16 0 1 1 00000006 00000001 0\n"
    ++ bytes_in "5 20 0 2 0 00000003 00000004 1\n"
    ++ bytes_in "6 20 0 255 0 00000001 00000004 1\n"
    ++ bytes_in "7 16 0 0 2 00000001 00000004 1\n"
    ++ bytes_in "8 17 0 0 0 00000001 00000004 1\n"
    ++ bytes_in "9 20 0 255 0 00000000 00000004 1\n"
    ++ bytes_in "10 17 0 0 0 00000004 00000004 1\n"
    ++ bytes_in "11 20 0 255 0 00000002 00000000 -\n"
    ++ bytes_in "12 20 0 1 0 00000000 00000002 0\n"
    ++ bytes_in "13 19 10 0 0 00000000 00000002 0\n"

-- up to where cores 0, 1 and 2 owe and core 0 is locked for the finished gang 0
abbrev pub until_all_owe : List ℕ
until_all_owe =
    bytes_in "1 16 0 1 1 00000001 00000000 -\n"
    ++ bytes_in "2 20 0 0 0 00000000 00000001 0\n"
    ++ bytes_in "3 17 0 0 0 00000001 00000001 0\n"
    ++ bytes_in "4 16 0 1 1 00000003 00000001 0\n"
    ++ bytes_in "5 16 0 1 1 00000007 00000001 0\n"

-- services 1, 0, 1, 2, 1
abbrev pub by_first_order : List ℕ
by_first_order =
    bytes_in "6 20 0 255 0 00000005 00000001 0\n"
    ++ bytes_in "7 20 0 255 0 00000006 00000000 -\n"
    ++ bytes_in "8 20 0 1 0 00000004 00000002 1\n"
    ++ bytes_in "9 20 0 2 0 00000002 00000004 2\n"
    ++ bytes_in "10 20 0 255 0 00000000 00000004 2\n"

-- services 2, 1, 0, 2, 1
abbrev pub by_second_order : List ℕ
by_second_order =
    bytes_in "6 20 0 255 0 00000003 00000001 0\n"
    ++ bytes_in "7 20 0 255 0 00000001 00000001 0\n"
    ++ bytes_in "8 20 0 255 0 00000006 00000000 -\n"
    ++ bytes_in "9 20 0 2 0 00000002 00000004 2\n"
    ++ bytes_in "10 20 0 255 0 00000000 00000004 2\n"

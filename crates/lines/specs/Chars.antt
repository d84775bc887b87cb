-- The characters that a line of the listing is made of, and the numbers that its format names.
use Rattle.std.specs.Prelude.{ℕ}

abbrev pub space : ℕ
space = 32

abbrev pub line_feed : ℕ
line_feed = 10

-- '-', printed where no gang holds the lock
abbrev pub dash : ℕ
dash = 45

-- '0', to which a digit below ten is added
abbrev pub digits : ℕ
digits = 48

-- 'a' less ten, to which a digit from ten on is added
abbrev pub letters : ℕ
letters = 87

-- the two bases
abbrev pub ten : ℕ
ten = 10

abbrev pub sixteen : ℕ
sixteen = 16

-- how many decimal digits a number of 8, of 16 and of 32 bits takes at most
abbrev pub places8 : ℕ
places8 = 3

abbrev pub places16 : ℕ
places16 = 5

abbrev pub places32 : ℕ
places32 = 10

-- how many hex digits a set of cores takes
abbrev pub hex_places : ℕ
hex_places = 8

-- the holder's byte where no gang holds the lock
abbrev pub no_holder : ℕ
no_holder = 255

-- the bytes that a line is lent
abbrev pub room : ℕ
room = 80

-- the most bytes of words in a line
abbrev pub most_words : ℕ
most_words = 61

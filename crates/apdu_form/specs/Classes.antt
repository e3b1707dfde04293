-- What the class byte of a command says (ETSI TS 102 221, 10.1.1).
use Rattle.std.specs.Prelude.{ℕ, ◌/◌, ◌%◌, ◌*◌, ◌==◌, ◌&&◌, ◌||◌, not, Bool, if◌then◌else◌}

-- the class without its lower half, in which 0X and 8X name a channel
abbrev pub family : ℕ → ℕ
family class = class / 16 * 16

-- 0X and 8X name a channel in their lower half
abbrev pub names_channel : ℕ → Bool
names_channel class = family class == 0x00 || family class == 0x80

-- a class that the card takes: 0X and 8X, and F0, in which it has commands of its own
abbrev pub is_class : ℕ → Bool
is_class class = names_channel class || class == 0xF0

-- b4 or b3: secure messaging, which this card does not have
abbrev pub asks_secure_messaging : ℕ → Bool
asks_secure_messaging class = names_channel class && not (class / 4 % 4 == 0)

-- the channel in b2 and b1; the class F0 stands for the basic channel
abbrev pub channel_of : ℕ → ℕ
channel_of class = if names_channel class then class % 4 else 0

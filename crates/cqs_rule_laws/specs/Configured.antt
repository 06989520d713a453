-- Which configurations a queue may be made with, and how long its line is at most.
use Rattle.std.specs.Prelude.{ℕ, ◌+◌, ◌*◌, nat_le, ◌&&◌, Bool}
use Rattle.cqs_rule_laws.specs.declared.config.Config.{Config}

-- the largest limit
abbrev pub largest_limit : ℕ
largest_limit = 68719476736

-- and that of a queue which has a slot for each segment that can be wanted
abbrev pub largest_ample : ℕ
largest_ample = 1048576

abbrev pub is_config : Config → Bool
is_config c =
    (nat_le 1 c.passes && nat_le c.passes 32) && (nat_le 1 c.limit && nat_le c.limit largest_limit)
    && (nat_le (2 * c.passes + 2) c.slots && nat_le c.slots 65535)

-- with such a slot for each
abbrev pub is_small_config : Config → Bool
is_small_config c = is_config c && nat_le c.limit largest_ample

-- The waits in line are fewer than this at any time, and so are those of one pass: each has its
-- cell in one of the slots, or in the segment after the last.
abbrev pub longest_line : ℕ
longest_line = 4194304

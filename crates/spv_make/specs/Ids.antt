-- The ids of the module that is made. They are numbered from 1 in the order in which the results stand; where nothing names a
-- result again, its number stands with its instruction alone.
use Rattle.std.specs.Prelude.{ℕ}

abbrev pub debug_set : ℕ
debug_set = 1

-- ---- strings

abbrev pub file_name : ℕ
file_name = 2

abbrev pub main_name : ℕ
main_name = 3

abbrev pub acc_name : ℕ
acc_name = 4

abbrev pub uint_name : ℕ
uint_name = 5

-- ---- types and constants

abbrev pub void : ℕ
void = 6

abbrev pub main_type : ℕ
main_type = 7

abbrev pub bool : ℕ
bool = 8

abbrev pub uint : ℕ
uint = 9

-- the constants are named by their values, and the last one by what it says
abbrev pub c0 : ℕ
c0 = 10

abbrev pub c1 : ℕ
c1 = 11

abbrev pub c2 : ℕ
c2 = 12

abbrev pub c3 : ℕ
c3 = 13

abbrev pub c4 : ℕ
c4 = 14

abbrev pub c5 : ℕ
c5 = 15

abbrev pub c6 : ℕ
c6 = 16

abbrev pub c32 : ℕ
c32 = 17

abbrev pub c64 : ℕ
c64 = 18

abbrev pub c264 : ℕ
c264 = 19

abbrev pub turns : ℕ
turns = 20

abbrev pub buffer_array : ℕ
buffer_array = 21

abbrev pub shared_array : ℕ
shared_array = 22

abbrev pub buffer_block : ℕ
buffer_block = 23

abbrev pub input_pointer : ℕ
input_pointer = 24

abbrev pub array_pointer : ℕ
array_pointer = 25

abbrev pub shared_pointer : ℕ
shared_pointer = 26

abbrev pub block_pointer : ℕ
block_pointer = 27

abbrev pub buffer_pointer : ℕ
buffer_pointer = 28

-- ---- variables

abbrev pub index : ℕ
index = 29

abbrev pub shared : ℕ
shared = 30

abbrev pub buffer : ℕ
buffer = 31

-- ---- debug records

abbrev pub source : ℕ
source = 32

abbrev pub unit : ℕ
unit = 33

abbrev pub nothing : ℕ
nothing = 34

abbrev pub uint_record : ℕ
uint_record = 35

abbrev pub type_record : ℕ
type_record = 36

abbrev pub main_record : ℕ
main_record = 37

abbrev pub acc_record : ℕ
acc_record = 38

abbrev pub expression : ℕ
expression = 39

-- ---- the function

abbrev pub main : ℕ
main = 40

abbrev pub entry : ℕ
entry = 41

abbrev pub own : ℕ
own = 45

abbrev pub place : ℕ
place = 46

abbrev pub head : ℕ
head = 47

abbrev pub count : ℕ
count = 48

abbrev pub acc : ℕ
acc = 49

abbrev pub goes : ℕ
goes = 53

abbrev pub body : ℕ
body = 54

abbrev pub other : ℕ
other = 57

abbrev pub other_place : ℕ
other_place = 58

abbrev pub theirs : ℕ
theirs = 59

abbrev pub doubled : ℕ
doubled = 61

abbrev pub acc_next : ℕ
acc_next = 62

abbrev pub count_next : ℕ
count_next = 63

abbrev pub done : ℕ
done = 64

abbrev pub out : ℕ
out = 67

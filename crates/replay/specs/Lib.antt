-- The definitions by subject:
--
--     Replies      what each reply is: its request's own value, or an error of the request's own call
--     Histories    the current regex and the walks after each request
--     Caches       what the requests do to the caches, one after another, and so why their calls fail
--     Players      what is true of the player between two requests
pub mod Replies
pub mod Histories
pub mod Caches
pub mod Players

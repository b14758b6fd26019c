-- The route by which the tasks of an operation come by the elements that they write.

pub data Route : Type 0 where
  -- from where each element comes is asked of a view
  View : Route
  -- a region is read and written as it is
  Copying : Route
  -- elements are computed from regions that are read before
  Computing : Route
